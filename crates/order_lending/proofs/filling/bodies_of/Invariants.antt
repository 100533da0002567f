-- `order_lending::filling::bodies_of` meets its contract. The loop's invariant: the instructions before number n are stored. Assumes nothing.
use Rattle.order_states.specs.Code.Lent.{BodiesTo}
use Rattle.order_lending.proofs.filling.bodies_of.Given as goal

abbrev pub invariant-loop-n : goal.invariant-loop-n
invariant-loop-n l = BodiesTo l.t l.n l.program
