-- `walk_moves::start_from` meets its contract. The loop's invariant: no byte of a task from i up to k is a step, whatever
-- the locks that make the level `low`. The measure is the number of tasks left.
-- Assumes nothing.
use mathlib.Core.Path.{◌≡◌}
use Prim.Native.Nat.{◌*◌, ◌-◌, ◌≤◌}
use Rattle.taskfile.specs.declared.Ceilings.{Ceilings}
use Rattle.order_states.specs.Code.SnapshotSteps.{level_in}
use Rattle.order_states.specs.Code.StateBytes.{snapshot_in}
use Rattle.walk_moves.specs.Code.MoveParts.{NoStep}
use Rattle.walk_moves.proofs.start_from.Given as goal

abbrev pub invariant-loop-k : goal.invariant-loop-k
invariant-loop-k l =
    (l.initial.k ≤ l.k) × (l.k ≤ 8)
    × ((locks : Ceilings) → l.low ≡ level_in l.lent.program locks (snapshot_in l.s.bytes) → l.low ≤ l.initial.k
    → NoStep l.lent.program l.lent.waits locks (snapshot_in l.s.bytes) (16 * l.initial.k) (16 * l.k))

abbrev pub decreases-loop-k : goal.decreases-loop-k
decreases-loop-k l = 8 - l.k
