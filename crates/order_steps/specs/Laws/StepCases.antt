-- Laws of the step on a state's bytes, a case of its definition each: what the tests that the code has made come to.
-- Assumes nothing.
use Rattle.order.specs.OrderBytes.{task_of_byte, value_of_byte}
use Rattle.std.specs.Prelude.{◌≡◌, ℕ, ◌<◌, Bool, true, false, List, Some, None}
use Rattle.std.proofs.Common.{sym, ap, ◌∙◌}
use Rattle.taskfile.specs.declared.Ceilings.{Ceilings}
use Rattle.order_states.specs.declared.Due.{Due}
use Rattle.order_states.specs.Code.Snapshots.{Snapshot, Stepped}
use Rattle.order_states.specs.Code.SnapshotSteps.{turn_in, step_in, offered_in, made_in}
use Rattle.order_states.proofs.Laws.TurnLaws.{due_task, step_none, step_due}
use Rattle.order_states.specs.Code.StateBytes.{snapshot_in, IsState}
use Rattle.order_states.proofs.Laws.StepPartLaws.{with_offered, with_refused}

module _ (program waits : List ℕ) (locks : Ceilings) (bytes : List ℕ) (byte : ℕ) where
  abbrev Is : Bool → Snapshot → Type 0
  Is allowed state =
      (allowed ≡ (step_in program waits locks (snapshot_in bytes) byte).allowed) × (state ≡ (step_in program waits locks (snapshot_in bytes) byte).state)

  parts : {allowed : Bool} {state : Snapshot}
      → record { allowed = allowed; state = state } ≡ step_in program waits locks (snapshot_in bytes) byte
      → Is allowed state
  parts e = (ap (λ (r : Stepped). r.allowed) e, ap (λ (r : Stepped). r.state) e)

  -- nobody is due
  pub step_nobody : None ≡ turn_in program waits locks (snapshot_in bytes) (task_of_byte byte) → Is false (snapshot_in bytes)
  step_nobody is = parts (step_none program waits locks (snapshot_in bytes) byte is)

  module _ {d : Due} (is : Some d ≡ turn_in program waits locks (snapshot_in bytes) (task_of_byte byte)) where
    -- a turn that is due is of one of the eight tasks
    pub task_small : IsState bytes → task_of_byte byte < 8
    unfolding snapshot_in
    task_small whole = due_task program waits locks (snapshot_in bytes) (task_of_byte byte) is whole.few

    module _ {b : Bool} (offer : b ≡ offered_in program d.frame (task_of_byte byte) (value_of_byte byte)) where
      -- the value is not on offer
      pub step_refused : b ≡ false → Is false (snapshot_in bytes)
      step_refused h =
          parts
          (step_due program waits locks (snapshot_in bytes) byte is
          (sym (with_refused program (snapshot_in bytes) d.frame d.under (task_of_byte byte) (value_of_byte byte) (sym offer ∙ h))))

      -- it is
      pub step_made_lem : b ≡ true → {q : Snapshot}
          → q ≡ made_in program (snapshot_in bytes) d.frame d.under (task_of_byte byte) (value_of_byte byte) → Is true q
      step_made_lem h made =
          parts
          (step_due program waits locks (snapshot_in bytes) byte is
          (ap (λ (p : Snapshot). record { allowed = true; state = p }) made
          ∙ sym (with_offered program (snapshot_in bytes) d.frame d.under (task_of_byte byte) (value_of_byte byte) (sym offer ∙ h))))
