-- `texts_reading::numerals::capped_value` meets its contract.
-- Assumes nothing.
use Rattle.std.specs.Prelude.{unwrap_or}
use Rattle.std.proofs.Common.{ap, ◌∙◌}
use Rattle.texts_reading.specs.Laws.NumeralsLaws.{numeral_valued}
use Rattle.texts_reading.proofs.numerals.capped_value.Goals as goal

pub returns : goal.returns
returns c = c.unwrap_or.ensures ∙ ap (λ v. unwrap_or v 0) c.numeral_of.ensures ∙ numeral_valued _
