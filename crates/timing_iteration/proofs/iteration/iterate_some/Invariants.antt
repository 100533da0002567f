-- `timing_iteration::iteration::iterate_some` meets its contract. The loop's invariant: r is a lower bound of the solutions, at which the
-- demand is not below r.
-- Assumes nothing.
use Rattle.timing.specs.Code.ResponseParts.{LowerBound}
use Rattle.timing_iteration.proofs.iteration.iterate_some.Given as goal

abbrev pub invariant-loop : goal.invariant-loop
invariant-loop l = LowerBound l.equation.times.now.table.now l.equation.task l.r
