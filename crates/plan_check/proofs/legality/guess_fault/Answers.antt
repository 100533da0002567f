-- What `plan_check::legality::guess_fault` owes and the search does not find.
use native.Mathlib.Omega.{arith}
use Rattle.std.proofs.Common.{sym}
use borrow.Author.Tests.{not-true, not-false}
use Rattle.std.specs.Cmp.Lexicographic.{same_text, other_text}
use Rattle.plan_check.specs.Laws.GuessLaws.{guesses_all, guess_found, guess_later, guess_missing}
use Rattle.plan_check.proofs.legality.guess_fault.Goals as goal

pub loop-r-init : goal.loop-r-init
loop-r-init c = guesses_all _ _ _ _

pub returns-then-ne : goal.returns-then-ne
returns-then-ne c =
    rw (c.at.ensures, c.from.ensures)
    (guess_found _ _ _ _ _ c.loop-r.invariant (omega arith) c.guess_of.ensures c.due_store.ensures
    (other_text _ _ (sym (not-true _ (sym c.if-ne.ensures)))))

pub loop-r-preserved : goal.loop-r-preserved
loop-r-preserved c =
    guess_later _ _ _ _ _ c.loop-r.invariant (omega arith) c.guess_of.ensures c.due_store.ensures
    (same_text _ _ (sym (not-false _ (sym c.if-ne.ensures))))

pub returns : goal.returns
returns c = guess_missing _ _ _ _ _ c.loop-r.invariant (omega arith)
