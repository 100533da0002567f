-- The lines of a failing order stand one after the other.
-- Assumes nothing.
use Rattle.sheets.specs.SheetWords.{fails_word}
use Rattle.sheets_lines.specs.Laws.FindingLaws.{failure_put}
use Rattle.sheets_lines.proofs.put_failure.Goals as goal

pub returns : goal.returns
unfolding fails_word
returns c =
    failure_put c.plan_marks.ensures c.put_verdict.ensures c.put_order.ensures c.put_failed.ensures
    c.put_jobs_rounds.ensures
