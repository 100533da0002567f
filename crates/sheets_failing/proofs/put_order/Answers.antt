-- The word, the numbers and the newline stand one after the other.
-- Assumes nothing.
use Rattle.sheets.specs.SheetWords.{order_word}
use Rattle.sheets_failing.specs.Laws.FailingLines.{order_put}
use Rattle.sheets_failing.proofs.put_order.Goals as goal

pub returns : goal.returns
unfolding order_word
returns c = order_put _ c.put_word.ensures c.then_numbers.ensures c.end_line.ensures
