-- `order_lending::filling::program_of` meets its contract. The loop's invariant: the program holds the table's bodies and the tasks of
-- the jobs before x. Assumes nothing.
use Rattle.order_states.specs.Code.Lent.{OwnersTo}
use Rattle.order_lending.proofs.filling.program_of.Given as goal

abbrev pub invariant-loop-x : goal.invariant-loop-x
invariant-loop-x l = OwnersTo l.listed.table l.listed.list l.x l.program
