-- A byte of an order that a step on a state's bytes was made for: the replay is at fault, or goes on from the bytes
-- after it.
-- Assumes nothing.
use Rattle.std.specs.Prelude.{◌≡◌, refl, ℕ, ◌+◌, ◌<◌, Bool, true, false, not, List, length, get_or, Option, Some, None}
use Rattle.std.proofs.Common.{sym, ap, ap₂, ◌∙◌, true≢false}
use Rattle.std.proofs.lemmas.Bool.{not-true}
use Rattle.taskfile.specs.declared.Ceilings.{Ceilings}
use Rattle.std.specs.Prelude.{if◌then◌else◌}
use Rattle.notation.specs.Checked.{refused}
use Rattle.order_states.specs.declared.Due.{Due}
use Rattle.order_states.specs.Code.Snapshots.{Snapshot, Stepped}
use Rattle.order_states.proofs.Laws.ReplayLoopLaws.{Reached, replay_refused, replay_goes}
use Rattle.order_states.specs.Code.SnapshotSteps.{Program, step_with_in, due_step, step_in, finished_in, slip_in, replay_in}

-- ---- a step that is not allowed changes nothing

abbrev Kept : Snapshot → Stepped → Type 0
Kept p stepped = stepped.allowed ≡ false → stepped.state ≡ p

choice_kept : (test : Bool) (p after : Snapshot)
    → Kept p (if test then record { allowed = true; state = after } else record { allowed = false; state = p })
choice_kept true p after h = absurd (true≢false h)
choice_kept false p after h = refl

turn_kept : (program : Program) (p : Snapshot) (i v : ℕ) (o : Option Due) → Kept p (due_step program p i v o)
unfolding due_step step_with_in
turn_kept program p i v None h = refl
turn_kept program p i v (Some d) h = choice_kept _ p _ h

pub step_kept : (program waits : List ℕ) (locks : Ceilings) (p : Snapshot) (byte : ℕ)
    → (step_in program waits locks p byte).allowed ≡ false → (step_in program waits locks p byte).state ≡ p
unfolding step_in
step_kept program waits locks p byte = turn_kept program p _ _ _

-- ---- the replay after a step

module _ (program waits : List ℕ) (locks : Ceilings) (tasks : ℕ) (start : Snapshot) (order : List ℕ) (p : Snapshot)
    (index : ℕ) (reached : Reached program waits locks tasks start order p index)
    {b : Bool} (finished : b ≡ finished_in program p)
    (lt : index < length order) (goes : b ≡ false) {allowed : Bool} {after : Snapshot}
    (allows : allowed ≡ (step_in program waits locks p (get_or order index 0)).allowed)
    (made : after ≡ (step_in program waits locks p (get_or order index 0)).state) where
  whole : record { allowed = allowed; state = after } ≡ step_in program waits locks p (get_or order index 0)
  whole = ap₂ (λ (t : Bool) (s : Snapshot). record { allowed = t; state = s }) allows made

  -- its slip is asked of the state after it, which is the one before
  pub byte_refused : not allowed ≡ true → {n : ℕ} → n ≡ slip_in program waits locks tasks after (get_or order index 0)
      → refused n index ≡ replay_in program waits locks tasks start 0 order
  byte_refused refusal says =
      let kept = made ∙ step_kept program waits locks p (get_or order index 0) (sym allows ∙ not-true allowed refusal) in
      let named = says ∙ ap (λ (s : Snapshot). slip_in program waits locks tasks s (get_or order index 0)) kept in
      (λ j. refused (named j) index)
      ∙ replay_refused program waits locks tasks start order p index reached finished lt goes {r = record { allowed = allowed; state = after }} whole refusal

  pub byte_goes : not allowed ≡ false → Reached program waits locks tasks start order after (index + 1)
  byte_goes allowance =
      replay_goes program waits locks tasks start order p index reached finished lt goes {r = record { allowed = allowed; state = after }} whole allowance
