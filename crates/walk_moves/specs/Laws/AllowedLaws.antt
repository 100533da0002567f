-- Laws of a byte that is a step: whose turn that is, and that its value is on offer.
-- Assumes nothing.
use Rattle.std.specs.Prelude.{Option, Some, None}
use Rattle.order.specs.OrderBytes.{task_of_byte, value_of_byte}
use Rattle.std.specs.Prelude.{◌≡◌, refl, ℕ, ◌≤◌, ◌<◌, true, ◌&&◌, List, ltb}
use Rattle.std.proofs.Common.{sym, ◌∙◌, inl, inr, arith, true≢false, ltb-true}
use Rattle.std.proofs.Math.Decide.{dec_lt}
use Rattle.taskfile.specs.declared.Ceilings.{Ceilings}
use Rattle.notation.specs.Laws.TestLaws.{and_both, test_decided}
use Rattle.order_states.specs.declared.Due.{Due}
use Rattle.order_states.specs.Code.Snapshots.{Snapshot}
use Rattle.order_states.specs.Code.SnapshotSteps.{bar_in, level_in, start_turn, top_of, top_turn, turn_in, step_in, offered_in}
use Rattle.order_states.proofs.Laws.StartLaws.{level_flat, level_none, level_some}
use Rattle.walk_moves.specs.Laws.DueLaws as due
use Rattle.walk_moves.specs.Laws.NextLaws as next
use Rattle.walk_moves.specs.Code.MoveParts.{running_task}

-- the level is 8 at most
pub level_bounded : (program : List ℕ) (locks : Ceilings) (p : Snapshot) → level_in program locks p ≤ 8
level_bounded program locks p = elim (dec_lt 0 p.depth) [
  | yes active ↦
      let deep : p.depth ≡ 0 → ⊥ = λ flat. omega arith in
      elim (test_decided (ltb (top_of p).job.0 32 && ltb (bar_in program locks p) 8)) [
        | inl h ↦
            let bar = ltb-true (bar_in program locks p) 8 (and_both (ltb (top_of p).job.0 32) _ h).1 in
            omega (arith, level_some program locks p deep h)
        | inr h ↦ omega (arith, level_none program locks p deep h)
      ]
  | no flat ↦ omega (arith, level_flat program locks p (omega arith))
]

module _ (program waits : List ℕ) (locks : Ceilings) (p : Snapshot) (byte : ℕ)
    (allowed : (step_in program waits locks p byte).allowed ≡ true) where
  -- the turn of its task is due
  pub allowed_due : (d : Due) × (Some d ≡ turn_in program waits locks p (task_of_byte byte))
  allowed_due = turned (turn_in program waits locks p (task_of_byte byte)) refl
    where
      turned : (o : Option Due) → turn_in program waits locks p (task_of_byte byte) ≡ o
          → (d : Due) × (Some d ≡ turn_in program waits locks p (task_of_byte byte))
      turned None e =
          absurd (true≢false (sym allowed ∙ next.idle_refused program waits locks p (task_of_byte byte) (sym e) byte refl))
      turned (Some d) e = (d, sym e)

  -- its value is on offer
  pub allowed_offered : {d : Due} → Some d ≡ turn_in program waits locks p (task_of_byte byte)
      → offered_in program d.frame (task_of_byte byte) (value_of_byte byte) ≡ true
  allowed_offered is =
      sym (next.due_allowed program waits locks p (task_of_byte byte) is byte refl) ∙ allowed

  module _ (small : byte < 128) {top : ℕ} (running : top ≡ running_task program p) where
    -- the running job's task has that job's turn, and that job is active
    pub allowed_top : task_of_byte byte ≡ top → Some (top_turn p) ≡ turn_in program waits locks p (task_of_byte byte)
    allowed_top here = due.turn_top program p (task_of_byte byte) (omega arith) running waits locks here

    pub allowed_deep : task_of_byte byte ≡ top → 1 ≤ p.depth
    allowed_deep here = due.top_deep program p (task_of_byte byte) (omega arith) running here

    -- another task has a start, and is not below the level
    pub allowed_start : (task_of_byte byte ≡ top → ⊥) → Some (start_turn p (task_of_byte byte)) ≡ turn_in program waits locks p (task_of_byte byte)
    allowed_start other =
        due.due_start program p (task_of_byte byte) (omega arith) running waits locks other allowed_due.1

    pub allowed_above : (task_of_byte byte ≡ top → ⊥) → level_in program locks p ≤ task_of_byte byte
    allowed_above other =
        due.due_above program p (task_of_byte byte) (omega arith) running waits locks other allowed_due.1
