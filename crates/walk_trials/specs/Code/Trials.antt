-- The walk and the trial on snapshots, as their functions yield them: what each came to within its allowance.
-- Assumes nothing.
use Rattle.std.specs.Prelude.{◌≡◌, ℕ, ◌+◌, ◌-◌, ◌≤◌, ◌<◌, List, ◌++◌, length, take}
use Rattle.std.proofs.Math.Option.{Option, none, some}
use Rattle.taskfile.specs.declared.Ceilings.{Ceilings}
use Rattle.timing.specs.Accepted.{Accepted}
use Rattle.timing.specs.Code.IsAccepted.{IsAccepted}
use Rattle.order_states.specs.Code.Snapshots.{Snapshot}
use Rattle.order.specs.Code.Invariant.{Invariant}
use Rattle.order_states.specs.Code.Shows.{Lends, Shows}
use Rattle.order.specs.States.{State}
use Rattle.walk.specs.Moves.{moves}
use Rattle.walk.specs.Code.FromState.{walk_from, trial}
use Rattle.walk.specs.Walks.{EndedOrder, Walked}
use Rattle.walk_trials.specs.declared.Outcome.{Outcome}
use Rattle.walk_trials.specs.declared.Outcome.TheVariants.{Stopped, Held, Found}

-- the path so far: its bytes up to the state are as they were
pub record Path (at : ℕ) (before now : List ℕ) : Type 0 where
  pub kept : take at now ≡ take at before

-- how the walk ended that made `total` moves in all, on a path of `at` bytes
abbrev pub WalkEndsAs : Option EndedOrder → ℕ → ℕ → List ℕ → Outcome → Type 0
WalkEndsAs none total at buffer r = r ≡ Held total
WalkEndsAs (some f) total at buffer r =
    (r ≡ Found total (at + length f.bytes) f.ending)
    × (take (at + length f.bytes) buffer ≡ take at buffer ++ f.bytes)

-- what a walk came to that had made `count` moves before and may make `allowance` in all, where the free walk comes to
-- `walked`
pub record Came (walked : Walked) (count allowance at : ℕ) (before after : List ℕ) (r : Outcome) : Type 0 where
  pub kept : take at after ≡ take at before
  pub cut : allowance < count + walked.count → r ≡ Stopped
  pub whole : count + walked.count ≤ allowance → WalkEndsAs walked.failing (count + walked.count) at after r

-- what a trial leaves beside its outcome: the moves made in all, and the path
abbrev pub Left : ℕ → ℕ → List ℕ → List ℕ → ℕ → Type 0
Left at allowance before after count = (length after ≡ length before) × (count ≤ allowance) × Path at before after

-- ---- what the walk and the trial come to, for every table and state that the arrays and the snapshot hold

abbrev pub WalksAs : List ℕ → List ℕ → Ceilings → Snapshot → ℕ → ℕ → ℕ → List ℕ → List ℕ → Outcome → Type 0
WalksAs program waits locks p left count allowance before after r =
    (a : Accepted) (s : State) → IsAccepted a → Lends a program waits locks → Invariant a s → Shows a p s
    → Came (walk_from a left s) count allowance (512 - left) before after r

abbrev pub TriesAs : List ℕ → List ℕ → Ceilings → Snapshot → ℕ → ℕ → ℕ → List ℕ → List ℕ → Outcome → Type 0
TriesAs program waits locks p left count allowance before after r =
    (a : Accepted) (s : State) → IsAccepted a → Lends a program waits locks → Invariant a s → Shows a p s
    → Came (trial (walk_from a left) (moves a s)) count allowance (511 - left) before after r
