-- `texts_reading::numerals::all_digits` meets its contract.
-- Assumes nothing.
use Rattle.std.proofs.Common.{◌∙◌, rules, tests}
use Rattle.std.proofs.lemmas.Iterator.{YieldsList-from_slice}
use Rattle.std.proofs.lemmas.Iterator.Search.{all_from_yields_List}
use Rattle.texts.specs.Reading.{is_digit}
use Rattle.texts_reading.specs.Laws.DigitLaws.{digits_listed}
use Rattle.texts_reading.proofs.numerals.all_digits.Goals as goal

pub returns : goal.returns
unfolding is_digit
returns c =
    all_from_yields_List is_digit _ _ _ c.all.ensures.ran (YieldsList-from_slice c.args.word.now cc)
    (λ x b q k. search (rules, tests))
    ∙ digits_listed _
