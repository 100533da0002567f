-- What `order_lending::filling::program_of` owes and the search does not find.
use Rattle.std.proofs.Common.{arith, refl}
use Rattle.order_states.proofs.Laws.LentLaws.{owners_more}
use Rattle.order_lending.proofs.filling.program_of.Goals as goal

pub loop-x-preserved : goal.loop-x-preserved
loop-x-preserved c = owners_more c.loop-x.invariant c.args.listed.now.shaped.tasks_within (omega arith) refl
