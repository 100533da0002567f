-- `texts_reading::numerals::is_word` meets its contract.
-- Assumes nothing.
use Rattle.std.proofs.Common.{◌∙◌}
use Rattle.texts_reading.specs.Laws.WordLaws.{same_swapped}
use Rattle.texts_reading.proofs.numerals.is_word.Goals as goal

pub returns : goal.returns
returns c = c.eq.ensures ∙ same_swapped _ _
