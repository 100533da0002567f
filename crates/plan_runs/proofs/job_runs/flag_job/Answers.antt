-- `plan_runs::job_runs::flag_job` meets its contract: the flag is raised, or the flags are kept.
-- Assumes nothing.
use Rattle.plan_runs.specs.Laws.FlagLaws.{flag_raised, flag_kept}
use Rattle.plan_runs.proofs.job_runs.flag_job.Goals as goal

pub returns-then-test : goal.returns-then-test
returns-then-test c = rw c.from.ensures (flag_raised _ _ _ c.if-test.true)

pub returns-else-test : goal.returns-else-test
returns-else-test c = flag_kept _ _ _ c.if-test.false
