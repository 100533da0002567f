-- What `timing_jobs::jobs_of` owes and the search does not find.
use native.Mathlib.Omega.{arith}
use mathlib.Core.Path.{◌≡◌, ap, ◌∙◌}
use Rattle.timing.specs.declared.JobList.{JobList}
use Rattle.timing.specs.Jobs.{job_count}
use Rattle.timing.specs.Code.JobParts.{job_list_of}
use Rattle.timing.proofs.Laws.JobListLaws.{none_below, task_added, below_all}
use Rattle.timing.proofs.Laws.TimeableLaws.{period_read, jobs_step, task_read}
use Rattle.timing_jobs.proofs.jobs_of.Goals as goal

pub loop-i-init : goal.loop-i-init
unfolding job_count job_list_of
loop-i-init c =
    let none : c.no_jobs-list.result.count ≡ 0 = ap (λ (x : JobList). x.count) c.no_jobs-list.ensures in
    (omega arith, c.no_jobs-list.ensures ∙ none_below _ _)

pub jobs_within-n-requires : goal.jobs_within-n-requires
jobs_within-n-requires c = period_read c.requires.0 _ _ (omega arith)

pub add_jobs-requires : goal.add_jobs-requires
add_jobs-requires c =
    let pre = c.requires in
    let i = c.loop-i.i in (
      omega (arith, pre.1, jobs_step pre.0 i _ (omega arith) c.jobs_within-n.ensures.0),
      rw (task_read pre.0.shaped i _ (omega arith)) (pre.2 i (omega arith)),
    )

pub loop-i-preserved : goal.loop-i-preserved
loop-i-preserved c =
    let pre = c.requires in (
      omega (arith, c.add_jobs.ensures.counted, jobs_step pre.0 c.loop-i.i _ (omega arith) c.jobs_within-n.ensures.0),
      task_added pre.0 _ _ _ (omega arith) c.jobs_within-n.ensures.0 c.add_jobs.ensures.added c.loop-i.invariant.1,
    )

pub returns : goal.returns
returns c =
    let ended : c.loop-i.i ≡ c.args.t.now.tasks = omega (arith, c.requires.0.shaped.tasks_within) in
    c.loop-i.invariant.1 ∙ ap job_list_of (below_all c.requires.0.shaped _ ended)
