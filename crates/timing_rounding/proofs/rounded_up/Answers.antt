-- `timing_rounding::rounded_up` meets its contract: the sum of two numbers of 32 bits fits 64, and divided by the divisor it
-- is the rounded-up quotient.
-- Assumes nothing.
use native.Mathlib.Omega.{arith}
use Rattle.timing.proofs.Laws.ResponseLaws.{rounded_up_summed}
use Rattle.timing_rounding.proofs.rounded_up.Goals as goal

pub returns : goal.returns
returns c = rounded_up_summed c.args.n c.args.d (omega arith)
