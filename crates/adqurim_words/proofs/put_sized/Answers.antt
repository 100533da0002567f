-- `adqurim_words::put_sized` meets its contract: its three stores fill the front of the lent words.
-- Assumes nothing.
use native.Mathlib.Omega.{arith}
use lib.ListN.{length-set}
use Rattle.adqurim_words.specs.Laws.WordsLaws.{three_stored}
use Rattle.adqurim_words.proofs.put_sized.Goals as goal

pub bounds-answer-1 : goal.bounds-answer-1
bounds-answer-1 c = simp length-set (omega arith)

pub returns : goal.returns
returns c = rw (c.from.ensures, c.from-2.ensures, c.from-3.ensures) (three_stored _ _ _ _ c.requires)
