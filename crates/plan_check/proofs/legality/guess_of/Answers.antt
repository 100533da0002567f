-- `plan_check::legality::guess_of` meets its contract: the eight bytes read are the guess.
-- Assumes nothing.
use native.Mathlib.Omega.{arith}
use Rattle.std.proofs.Common.{◌∙◌}
use Rattle.plan.specs.Runs.{guess}
use Rattle.plan_marks.specs.Laws.StoreLaws.{bytes_at_part}
use Rattle.plan_check.proofs.legality.guess_of.Goals as goal

pub returns : goal.returns
unfolding guess
returns c = c.bytes_at.ensures ∙ rw c.from.ensures (bytes_at_part _ _ _ (omega arith))
