-- `adqurim_words::put_walk` meets its contract: the verdict and the count stand after the words of the run.
-- Assumes nothing.
use Rattle.std.proofs.Common.{◌≡◌, refl}
use native.Mathlib.Omega.{arith}
use lib.ListN.{length-set}
use borrow.Author.Rules.{rules}
use denote.Enum.Declared.{tag_of}
use Rattle.walk.specs.contracts.Verdict.{the_type}
use Rattle.walk.specs.declared.Verdict.{Verdict}
use Rattle.walk.specs.declared.Verdict.TheVariants.{None, Holds, Fails}
use Rattle.adqurim_words.specs.Words.{verdict_number}
use Rattle.adqurim_words.specs.Laws.WordsLaws.{walk_stored}
use Rattle.adqurim_words.proofs.put_walk.Goals as goal

-- a verdict's number is its word
numbered : (v : Verdict) → tag_of the_type v ≡ verdict_number v
unfolding verdict_number
numbered None = refl
numbered Holds = refl
numbered Fails = refl

pub bounds-answer-44 : goal.bounds-answer-44
bounds-answer-44 c = simp length-set (omega arith)

pub returns : goal.returns
returns c =
    walk_stored c.args.x (search rules) (search rules) c.args.answer.now c.requires
    c.run_part.ensures c.put_run.ensures (numbered c.args.x.verdict)
