-- `order_lending::waits::waits_of` meets its contract. The loop's invariant: the rows of the first y jobs are filled.
-- Assumes nothing.
use Rattle.order_states.specs.Code.Lent.{WaitsTo}
use Rattle.order_lending.proofs.waits.waits_of.Given as goal

abbrev pub invariant-loop-y : goal.invariant-loop-y
invariant-loop-y l = WaitsTo l.program l.times l.count l.y l.waits
