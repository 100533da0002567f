-- What `texts_reading::numerals::value_of` owes and the search does not find.
use native.Mathlib.Omega.{arith}
use Rattle.texts_reading.specs.Laws.DigitLaws.{valued_none, valued_more, valued_all}
use Rattle.texts_reading.proofs.numerals.value_of.Goals as goal

pub loop-byte-init : goal.loop-byte-init
loop-byte-init c = valued_none _

pub loop-byte-preserved : goal.loop-byte-preserved
loop-byte-preserved c =
    valued_more _ _ _ c.loop-byte.invariant (omega arith) _ _
    c.digit_value.ensures.0 c.capped-value.ensures

pub returns : goal.returns
returns c = valued_all _ _ _ c.loop-byte.invariant (omega arith)
