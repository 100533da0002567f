-- What comes before the rounds, one round more at each step, and the line's end.
-- Assumes nothing.
use Rattle.std.proofs.Common.{ap, arith}
use Rattle.plan.specs.Runs.{Step}
use Rattle.sheets.specs.SheetWords.{job_word, rounds_word}
use Rattle.sheets_failing.specs.Laws.FailingLines.{job_rounds_none, job_rounds_more, job_rounds_put}
use Rattle.sheets_failing.proofs.put_job_rounds.Goals as goal

pub loop-n-init : goal.loop-n-init
loop-n-init c = job_rounds_none _ _ _

pub loop-n-preserved : goal.loop-n-preserved
loop-n-preserved c =
    job_rounds_more _ _ _ (ap (λ (step : Step). step.round) c.step.ensures) c.loop-n.invariant
    (rw c.from-in-loop-n.ensures at c.then_number-in-loop-n.ensures)

pub returns : goal.returns
unfolding job_word rounds_word
returns c =
    job_rounds_put _ _ _ (omega (arith, c.count-n-end.ensures.counts)) c.put_word.ensures
    (rw c.from.ensures at c.then_number.ensures) c.then_word.ensures c.loop-n.invariant c.end_line.ensures
