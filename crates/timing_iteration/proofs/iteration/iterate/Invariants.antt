-- `timing_iteration::iteration::iterate` meets its contract. The loop's invariant: r is a lower bound of the solutions, at which the demand
-- is not below r, and the quotients are kept for r. Where the demand is r, r is the least solution; else it is a higher
-- lower bound. The measure is how far r is from passing the period. Assumes nothing.
use Prim.Native.Nat.{suc, ◌-◌}
use Rattle.timing.specs.Code.ResponseParts.{LowerBound}
use Rattle.timing_iteration.specs.Code.Kept.{QuotientsKept}
use Rattle.timing_iteration.proofs.iteration.iterate.Given as goal

abbrev pub invariant-loop-r : goal.invariant-loop-r
invariant-loop-r l = let times = l.equation.times.now in LowerBound times.table.now l.equation.task l.r × QuotientsKept times l.r l.kept

abbrev pub decreases-loop-r : goal.decreases-loop-r
decreases-loop-r l = suc l.period - l.r
