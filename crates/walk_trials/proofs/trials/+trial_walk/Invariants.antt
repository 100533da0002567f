-- `walk_trials::trials::walk` and `walk_trials::trials::trial` meet their contracts. The measure falls with the room that is
-- left. The loop's invariant: what was tried held, what is left starts at `at`, which is a step, and the state is as it was.
-- Assumes nothing.
use Rattle.std.proofs.Common.{◌≡◌, ◌+◌, ◌-◌, ◌*◌}
use Rattle.order_states.specs.Code.StateBytes.{snapshot_in}
use Rattle.walk_moves.specs.Code.MoveParts.{FoundBelow, move_byte}
use Rattle.walk_trials.specs.Laws.TryingLaws.{TryingAt}
use Rattle.walk_trials.proofs.trials.+trial_walk.Given as goal

abbrev pub decreases-trial : goal.decreases-trial
decreases-trial l = 2 * l.left + 1

abbrev pub decreases-walk : goal.decreases-walk
decreases-walk l = 2 * l.left

abbrev pub invariant-trial-loop-at : goal.invariant-trial-loop-at
invariant-trial-loop-at l =
    FoundBelow 128 (λ m. TryingAt l.lent.program l.lent.waits l.lent.locks (snapshot_in l.initial.s.bytes) l.left l.initial.count
    l.count l.allowance l.initial.path l.path m) l.at
    × (l.s ≡ l.initial.s)

abbrev pub decreases-trial-loop-at : goal.decreases-trial-loop-at
decreases-trial-loop-at l = 128 - move_byte l.at
