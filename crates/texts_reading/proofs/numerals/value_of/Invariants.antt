-- `texts_reading::numerals::value_of` meets its contract. The loop's invariant: `value` is the number that the digits so far
-- are, cut off at the cap.
-- Assumes nothing.
use Rattle.texts_reading.specs.Laws.DigitLaws.{ValuedTo}
use Rattle.texts_reading.proofs.numerals.value_of.Given as goal

abbrev pub invariant-loop-byte : goal.invariant-loop-byte
invariant-loop-byte l = ValuedTo l.word l.value l.byte-index
