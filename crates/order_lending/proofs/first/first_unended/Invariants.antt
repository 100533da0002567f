-- `order_lending::first::first_unended` meets its contract. The loop's invariant: the first job looked for is the first
-- from x on.
-- Assumes nothing.
use mathlib.Core.Path.{◌≡◌}
use Prim.Native.Nat.{◌-◌}
use Rattle.order_states.specs.Code.SnapshotSteps.{first_from}
use Rattle.order_lending.proofs.first.first_unended.Given as goal

abbrev pub invariant-loop-x : goal.invariant-loop-x
invariant-loop-x l = first_from l.program l.i.0 0 32 ≡ first_from l.program l.i.0 l.x (32 - l.x)
