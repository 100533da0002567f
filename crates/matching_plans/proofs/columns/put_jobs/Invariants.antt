-- The loop's invariant: the steps of the jobs below x were written.
-- Assumes nothing.
use Rattle.notation_buffers.specs.Laws.PageLaws.{PartsTo}
use Rattle.matching_plans.specs.Code.Columns.{job_column}
use Rattle.matching_plans.proofs.columns.put_jobs.Given as goal

abbrev pub invariant-loop-x : goal.invariant-loop-x
invariant-loop-x l = PartsTo (job_column l.marks) l.x l.initial.page l.page
