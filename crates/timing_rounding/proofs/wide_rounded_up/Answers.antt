-- `timing_rounding::wide_rounded_up` meets its contract: one more than the quotient of the number less one is the rounded-up
-- quotient.
-- Assumes nothing.
use native.Mathlib.Omega.{arith}
use Rattle.timing.proofs.Laws.ResponseLaws.{rounded_up_lessened}
use Rattle.timing_rounding.proofs.wide_rounded_up.Goals as goal

pub returns : goal.returns
returns c = rounded_up_lessened c.args.n c.args.d (omega arith) (omega arith)
