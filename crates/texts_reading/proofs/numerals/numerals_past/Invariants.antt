-- `texts_reading::numerals::numerals_past` meets its contract. The loop's invariant: the words up to one that ends at a byte were
-- read, and are numerals or not. The measure is what is left of the line.
-- Assumes nothing.
use Prim.Native.Nat.{◌-◌}
use lib.ListN.{length}
use Rattle.texts_reading.specs.Laws.NumeralsLaws.{NumeralsTo}
use Rattle.texts_reading.proofs.numerals.numerals_past.Given as goal

abbrev pub invariant-loop-at : goal.invariant-loop-at
invariant-loop-at l = NumeralsTo l.line l.from l.good l.read l.at

abbrev pub decreases-loop-at : goal.decreases-loop-at
decreases-loop-at l = length l.line - l.at
