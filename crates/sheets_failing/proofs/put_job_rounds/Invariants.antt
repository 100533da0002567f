-- The loop's invariant: the first n rounds are written.
-- Assumes nothing.
use Rattle.notation_buffers.specs.Code.Pages.{Puts}
use Rattle.notation_buffers.specs.Code.Spaced.{spaced_numbers}
use Rattle.sheets_failing.specs.Laws.FailingLines.{rounds_to}
use Rattle.sheets_failing.proofs.put_job_rounds.Given as goal

abbrev pub invariant-loop-n : goal.invariant-loop-n
invariant-loop-n l = Puts l.initial.page (spaced_numbers (rounds_to l.marks l.x.number l.n)) l.page
