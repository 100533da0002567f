-- `order_lending::first::first_state` meets its contract. The loop's invariant: the first jobs of the tasks before k are stored.
-- Assumes nothing.
use Rattle.std.proofs.Common.{◌≡◌, ℕ, ◌<◌, length, get_or}
use Rattle.order_states.specs.Code.SnapshotSteps.{first_from}
use Rattle.order_lending.proofs.first.first_state.Given as goal

abbrev pub invariant-loop-k : goal.invariant-loop-k
invariant-loop-k l =
    (length l.unended ≡ 8) × ((j : ℕ) → j < l.k → get_or l.unended j 0 ≡ first_from l.program j 0 32)
