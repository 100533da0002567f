-- `timing_demands::demands::times_of` meets its contract. The loop's invariant: what the tasks before k ask is stored.
-- Assumes nothing.
use Rattle.timing.specs.Code.ResponseParts.{Timings}
use Rattle.timing_demands.proofs.demands.times_of.Given as goal

abbrev pub invariant-loop-k : goal.invariant-loop-k
invariant-loop-k l = Timings l.t l.k l.timings
