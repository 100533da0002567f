-- What `order_replay::ends::failed_in` owes and the search does not find.
use Rattle.order_replay.specs.Laws.FlagsRead.{flags_none, flags_more, flags_read}
use Rattle.order_replay.proofs.ends.failed_in.Goals as goal

pub loop-x-init : goal.loop-x-init
loop-x-init c = flags_none _

pub loop-x-preserved : goal.loop-x-preserved
loop-x-preserved c = flags_more c.loop-x.invariant c.loop-x-test.true

pub returns : goal.returns
returns c = flags_read c.loop-x.invariant c.loop-x-test.false
