-- `plan_check::legality::guess_fault` meets its contract. The loop's invariant: the guesses from round r on decide.
-- Assumes nothing.
use Rattle.plan_check.specs.Laws.GuessLaws.{GuessesFrom}
use Rattle.plan_check.proofs.legality.guess_fault.Given as goal

abbrev pub invariant-loop-r : goal.invariant-loop-r
invariant-loop-r l = GuessesFrom l.plan l.store l.stores l.k l.r
