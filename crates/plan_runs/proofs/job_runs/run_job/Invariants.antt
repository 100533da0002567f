-- `plan_runs::job_runs::run_job` meets its contract. The loop's invariant: the arrays hold what the job's first n steps made, and
-- its whole run is what is left of it after them.
-- Assumes nothing.
use Rattle.plan_runs.specs.Laws.JobLaws.{Running}
use Rattle.plan_runs.proofs.job_runs.run_job.Given as goal

abbrev pub invariant-loop-n : goal.invariant-loop-n
invariant-loop-n l =
    Running l.lent.program l.lent.locks l.plan l.k l.x.number l.start l.initial.stores l.initial.marks
    l.base.0 l.stores l.marks l.local l.previous l.failed l.offset l.n
