-- What `order_lending::filling::bodies_of` owes and the search does not find.
use native.Mathlib.Omega.{arith}
use Rattle.order_states.proofs.Laws.LentLaws.{bodies_none, bodies_more, instruction_read}
use Rattle.order_lending.proofs.filling.bodies_of.Goals as goal

pub loop-n-init : goal.loop-n-init
loop-n-init c = bodies_none _

pub loop-n-preserved : goal.loop-n-preserved
loop-n-preserved c = bodies_more c.loop-n.invariant (omega arith) (instruction_read c.requires _ (omega arith) _ _)
