-- The word, one job more at each step, and the line's end.
-- Assumes nothing.
use Rattle.std.proofs.Common.{arith}
use Rattle.sheets.specs.SheetWords.{failed_word}
use Rattle.sheets_failing.specs.Laws.FailingLines.{failed_none, failed_more, failed_put}
use Rattle.sheets_failing.proofs.put_failed.Goals as goal

pub loop-j-init : goal.loop-j-init
loop-j-init c = failed_none _ _

pub loop-j-preserved : goal.loop-j-preserved
loop-j-preserved c = failed_more _ _ c.loop-j.invariant (rw c.from.ensures at c.then_failed.ensures)

pub returns : goal.returns
unfolding failed_word
returns c =
    failed_put _ _ _ (omega arith) c.put_word.ensures c.loop-j.invariant c.end_line.ensures
