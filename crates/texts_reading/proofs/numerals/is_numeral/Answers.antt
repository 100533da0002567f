-- `texts_reading::numerals::is_numeral` meets its contract.
-- Assumes nothing.
use Rattle.std.proofs.Common.{arith}
use Rattle.std.proofs.lemmas.Grind.{common_steps}
use Rattle.texts_reading.specs.Laws.DigitLaws.{numeral_tested}
use Rattle.texts_reading.proofs.numerals.is_numeral.Goals as goal

pub returns-then-word-ne-ZERO : goal.returns-then-word-ne-ZERO
returns-then-word-ne-ZERO c = rw (numeral_tested c.args.word.now) (grind (arith, common_steps))

pub returns-else-word-ne-ZERO : goal.returns-else-word-ne-ZERO
returns-else-word-ne-ZERO c = rw (numeral_tested c.args.word.now) (grind (arith, common_steps))

pub returns-else-all_digits : goal.returns-else-all_digits
returns-else-all_digits c = rw (numeral_tested c.args.word.now) (grind (arith, common_steps))
