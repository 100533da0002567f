-- What `timing_jobs::job_total` owes and the search does not find.
use native.Mathlib.Omega.{arith}
use mathlib.Core.Path.{ap, ◌∙◌}
use Rattle.std.proofs.Common.{◌<◌, get_or-take}
use Rattle.timing.specs.Jobs.{jobs_within, job_count}
use Rattle.timing.proofs.Laws.TimeableLaws.{period_read, jobs_step, sum_end}
use Rattle.timing_jobs.proofs.job_total.Goals as goal

pub loop-e-init : goal.loop-e-init
unfolding job_count
loop-e-init c = omega arith

pub jobs_within-total-requires : goal.jobs_within-total-requires
jobs_within-total-requires c =
    let below : c.loop-e.e-index < c.args.t.now.tasks = omega arith in
    rw (get_or-take c.args.t.now.tasks c.args.t.now.entries c.loop-e.e-index _ below) (period_read c.requires _ _ below)

pub loop-e-preserved : goal.loop-e-preserved
loop-e-preserved c =
    let t = c.args.t.now in
    let below : c.loop-e.e-index < t.tasks = omega arith in
    let step = jobs_step c.requires c.loop-e.e-index _ below
    (c.jobs_within-total.ensures.0 ∙ ap (jobs_within t.window) (get_or-take t.tasks t.entries c.loop-e.e-index _ below)) in
    omega (arith, step)

pub returns : goal.returns
returns c =
    omega (arith, sum_end c.requires.shaped (jobs_within c.args.t.now.window) c.loop-e.e-index (omega arith))
