-- `order_replay::ends::failed_in` meets its contract. The loop's invariant: the flags of the jobs before x are read. Assumes nothing.
use Rattle.order_replay.specs.Laws.FlagsRead.{FlagsTo}
use Rattle.order_replay.proofs.ends.failed_in.Given as goal

abbrev pub invariant-loop-x : goal.invariant-loop-x
invariant-loop-x l = FlagsTo l.s l.x l.failed
