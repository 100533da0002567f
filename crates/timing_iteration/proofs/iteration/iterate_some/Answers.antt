-- What `timing_iteration::iteration::iterate_some` owes and the search does not find.
use Rattle.timing.proofs.Laws.IterationLaws.{iteration_higher}
use Rattle.timing_iteration.proofs.iteration.iterate_some.Goals as goal

pub loop-preserved : goal.loop-preserved
loop-preserved c = rw c.demand_of-next.ensures (iteration_higher c.loop.invariant)
