-- One job's line more at each step.
-- Assumes nothing.
use Rattle.notation_buffers.specs.Laws.PageLaws.{parts_none, parts_more}
use Rattle.sheets_failing.proofs.put_jobs_rounds.Goals as goal

pub loop-x-init : goal.loop-x-init
loop-x-init c = parts_none _ _

pub loop-x-preserved : goal.loop-x-preserved
loop-x-preserved c = parts_more c.loop-x.invariant c.put_job_rounds.ensures
