-- The loop's invariant: the lines of the jobs below x are written.
-- Assumes nothing.
use Rattle.notation_buffers.specs.Laws.PageLaws.{PartsTo}
use Rattle.sheets_failing.specs.Code.LineParts.{job_line}
use Rattle.sheets_failing.proofs.put_jobs_rounds.Given as goal

abbrev pub invariant-loop-x : goal.invariant-loop-x
invariant-loop-x l = PartsTo (job_line l.marks) l.x l.initial.page l.page
