-- What `plan_runs::job_runs::run_jobs` owes and the search does not find.
use native.Mathlib.Omega.{arith}
use mathlib.Core.Path.{refl}
use Rattle.std.proofs.lemmas.Result.{err_from_is_err_and}
use Rattle.plan_runs.specs.Laws.JobsLaws.{jobs_start, jobs_ended, jobs_refused, jobs_go}
use Rattle.plan_runs.proofs.job_runs.run_jobs.Goals as goal

pub loop-x-init : goal.loop-x-init
loop-x-init c = rw c.from.ensures (jobs_start _ _ _ _ _ _ (omega arith))

pub run_job-requires : goal.run_job-requires
run_job-requires c =
    let near = c.loop-x.invariant.near in
    (c.requires, omega (arith, near, c.loop-x-test.true, c.requires))

pub returns-in_err-ran : goal.returns-in_err-ran
returns-in_err-ran c =
    let p = err_from_is_err_and c.from_residual.result c.from_residual.ensures.1 in
    rw (p.1, p.2)
    (jobs_refused c.loop-x.invariant (omega arith) c.requires c.loop-x-test.true
    c.in_err-ran.ensures refl)

pub loop-x-preserved : goal.loop-x-preserved
loop-x-preserved c =
    jobs_go c.loop-x.invariant (omega arith) c.requires c.loop-x-test.true
    c.in_ok-ran.ensures refl c.flag_job.ensures

pub returns : goal.returns
returns c =
    jobs_ended c.loop-x.invariant (omega arith) c.requires (omega arith)
