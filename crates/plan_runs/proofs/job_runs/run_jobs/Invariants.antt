-- `plan_runs::job_runs::run_jobs` meets its contract. The loop's invariant: the arrays hold what the runs of the jobs before x
-- made, and the whole run is what is left of it after them.
-- Assumes nothing.
use Rattle.plan_runs.specs.Laws.JobsLaws.{JobsRunning}
use Rattle.plan_runs.proofs.job_runs.run_jobs.Given as goal

abbrev pub invariant-loop-x : goal.invariant-loop-x
invariant-loop-x l =
    JobsRunning l.lent.program l.lent.locks l.plan l.k l.initial.stores l.stores l.marks l.failed l.offset l.x
