-- What `texts_reading::numerals::numerals_past` owes and the search does not find.
use Rattle.std.proofs.Common.{sym, ap, ◌∙◌, ◌-◌, ◌+◌, take, drop}
use Rattle.std.specs.Prelude.{Bool, ◌≡◌, ◌&&◌, is_some, unwrap_or}
use Rattle.texts.specs.Reading.{is_numeral}
use Rattle.texts.specs.Code.LineParts.{numerals_told}
use Rattle.texts_reading.specs.Laws.NumeralsLaws.{numerals_none, numerals_more, numerals_all, numeral_told}
use Rattle.texts_reading.specs.Laws.NumeralsLaws.{numeral_valued, numeral_stored, good_kept, good_lost}
use Rattle.texts_reading.proofs.numerals.numerals_past.Goals as goal
use Rattle.texts_reading.proofs.numerals.numerals_past.Goals.{then-good, else-good}

pub loop-at-init : goal.loop-at-init
loop-at-init c = numerals_none _ _ c.requires

pub loop-at-preserved : goal.loop-at-preserved
loop-at-preserved c =
    let end = c.part_end-at.result in
    let word = take (end - (c.loop-at.at + 1)) (drop (c.loop-at.at + 1) c.args.line.now) in
    let found = c.numeral_of-value.ensures in
    let both : c.if-good.good ≡ (c.loop-at.good && is_numeral word) =
    elim c.if-good.branch [
      | then-good w ↦
          w.good-is ∙ w.is_some-good.ensures ∙ ap is_some found ∙ numeral_told word
          ∙ good_kept c.loop-at.good word w.if-good.true
      | else-good w ↦ w.good-is ∙ w.if-good.false ∙ good_lost c.loop-at.good word w.if-good.false
    ] in
    numerals_more _ _ _ _ _ c.loop-at.invariant c.loop-at-test.true _ c.part_end-at.ensures.end _ _ both
    (c.with_numeral-read.ensures
    ∙ numeral_stored c.loop-at.read word (c.unwrap_or.ensures ∙ ap (λ v. unwrap_or v 0) found ∙ numeral_valued word))

pub returns-then-good-2 : goal.returns-then-good-2
returns-then-good-2 c =
    ap (λ (b : Bool). numerals_told b c.loop-at.read) (sym c.if-good-2.true)
    ∙ numerals_all _ _ _ _ _ c.loop-at.invariant c.loop-at-test.false

pub returns-else-good-2 : goal.returns-else-good-2
returns-else-good-2 c =
    ap (λ (b : Bool). numerals_told b c.loop-at.read) (sym c.if-good-2.false)
    ∙ numerals_all _ _ _ _ _ c.loop-at.invariant c.loop-at-test.false
