-- The loop's invariant: the failed ones of the jobs below j are written.
-- Assumes nothing.
use Rattle.notation_buffers.specs.Code.Pages.{Puts}
use Rattle.notation_buffers.specs.Code.Spaced.{spaced_numbers}
use Rattle.sheets_failing.specs.Laws.FailingLines.{failed_to}
use Rattle.sheets_failing.proofs.put_failed.Given as goal

abbrev pub invariant-loop-j : goal.invariant-loop-j
invariant-loop-j l = Puts l.initial.page (spaced_numbers (failed_to l.failed l.j)) l.page
