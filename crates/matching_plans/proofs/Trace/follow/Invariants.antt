-- The loop's invariant: the whole trace is that of the bytes left, from where it stands.
-- Assumes nothing.
use Rattle.matching_plans.specs.Code.Tracing.{noted_of}
use Rattle.matching_plans.proofs.Laws.NotingLaws.{Reaches}
use Rattle.matching_plans.proofs.Trace.follow.Given as goal

abbrev pub invariant-loop-byte : goal.invariant-loop-byte
invariant-loop-byte l =
    Reaches l.lent.program l.lent.waits l.lent.locks (noted_of l.initial.self) l.order (noted_of l.self) l.byte-index
