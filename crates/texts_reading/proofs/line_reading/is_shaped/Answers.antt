-- `texts_reading::line_reading::is_shaped` meets its contract.
-- Assumes nothing.
use Rattle.std.proofs.Common.{arith}
use Rattle.std.proofs.lemmas.Grind.{common_steps}
use Rattle.texts_reading.specs.Code.FormReading.{well_shaped}
use Rattle.texts_reading.proofs.line_reading.is_shaped.Goals as goal

pub returns-then-may_come : goal.returns-then-may_come
unfolding well_shaped
returns-then-may_come c = grind (arith, common_steps)

pub returns-else-may_come : goal.returns-else-may_come
unfolding well_shaped
returns-else-may_come c = grind (arith, common_steps)
