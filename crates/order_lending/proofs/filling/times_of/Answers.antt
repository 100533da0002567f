-- What `order_lending::filling::times_of` owes and the search does not find.
use mathlib.Core.Path.{refl}
use native.Mathlib.Omega.{arith}
use Rattle.order_states.proofs.Laws.LentLaws.{times_more}
use Rattle.order_lending.proofs.filling.times_of.Goals as goal

pub loop-x-preserved : goal.loop-x-preserved
loop-x-preserved c = times_more c.loop-x.invariant (omega arith) refl refl
