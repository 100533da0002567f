-- The flag is set, or not.
-- Assumes nothing.
use Rattle.sheets_failing.specs.Laws.FailingLines.{failed_set, failed_clear}
use Rattle.sheets_failing.proofs.then_failed.Goals as goal

pub returns-then-flag : goal.returns-then-flag
returns-then-flag c = failed_set _ c.if-flag.true (rw c.from.ensures at c.then_number.ensures)

pub returns-else-flag : goal.returns-else-flag
returns-else-flag c = failed_clear _ c.if-flag.false
