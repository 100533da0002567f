-- `texts_reading::numerals::numeral_of` meets its contract.
-- Assumes nothing.
use Rattle.std.proofs.Common.{arith}
use Rattle.std.proofs.lemmas.Grind.{common_steps}
use Rattle.texts.specs.Code.LineParts.{capped_value, numeral_of}
use Rattle.texts_reading.proofs.numerals.numeral_of.Goals as goal

pub returns-then-is_numeral : goal.returns-then-is_numeral
unfolding numeral_of capped_value
returns-then-is_numeral c = grind (arith, common_steps)

pub returns-else-is_numeral : goal.returns-else-is_numeral
unfolding numeral_of capped_value
returns-else-is_numeral c = grind (arith, common_steps)
