-- `order_lending::waits::fill_row` meets its contract. The loop's invariant: job y's row is that of the first x jobs, and
-- nothing else was written.
-- Assumes nothing.
use Rattle.order_states.specs.Code.Lent.{RowFilled}
use Rattle.order_lending.proofs.waits.fill_row.Given as goal

abbrev pub invariant-loop-x : goal.invariant-loop-x
invariant-loop-x l = RowFilled l.program l.times l.y.number l.x l.initial.waits l.waits
