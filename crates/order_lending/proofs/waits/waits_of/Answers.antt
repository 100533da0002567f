-- What `order_lending::waits::waits_of` owes and the search does not find.
use Rattle.order_states.proofs.Laws.WaitLaws.{waits_none}
use Rattle.order_lending.proofs.waits.waits_of.Goals as goal

pub loop-y-init : goal.loop-y-init
loop-y-init c = waits_none _ _ _
