-- Laws of the first byte that a search finds, or 128 where there is none: the first start, and where a trial starts.
-- Assumes nothing.
use Rattle.std.specs.Prelude.{◌≡◌, ℕ, ◌*◌, ◌≤◌, List}
use Rattle.std.proofs.Math.Path.{subst}
use Rattle.std.proofs.Common.{arith}
use Rattle.taskfile.specs.declared.Ceilings.{Ceilings}
use Rattle.order_states.specs.Code.Snapshots.{Snapshot}
use Rattle.order_states.specs.Code.SnapshotSteps.{level_in}
use Rattle.walk_moves.specs.Code.MoveParts.{NextStep, FirstStart}
use Rattle.walk_trials.specs.Laws.TryingLaws.{Trying, trying_starts, trying_skips}

-- the search from the level on finds the first start
pub first_start : (program waits : List ℕ) (locks : Ceilings) (p : Snapshot) {low m : ℕ}
    → low ≡ level_in program locks p
    → ((ls : Ceilings) → low ≡ level_in program ls p → low ≤ low → NextStep program waits ls p (16 * low) m)
    → FirstStart program waits locks p m
first_start program waits locks p {low} {m} level found =
    subst (λ (n : ℕ). NextStep program waits locks p (16 * n) m) level (found locks level (omega arith))

-- the first move is where the trial starts
pub first_answer : {program waits : List ℕ} {locks : Ceilings} {p : Snapshot} {left count allowance m : ℕ}
    {buffer : List ℕ} → count ≤ allowance → NextStep program waits locks p 0 m
    → Trying program waits locks p left count count allowance m buffer buffer
first_answer le next = trying_skips next.ahead next.below next.none_before (trying_starts le)
