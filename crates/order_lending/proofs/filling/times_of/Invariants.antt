-- `order_lending::filling::times_of` meets its contract. The loop's invariant: the times of the jobs before x are stored. Assumes nothing.
use Rattle.order_states.specs.Code.Lent.{TimesTo}
use Rattle.order_lending.proofs.filling.times_of.Given as goal

abbrev pub invariant-loop-x : goal.invariant-loop-x
invariant-loop-x l = TimesTo l.list l.x l.times
