-- `timing_acceptance::job_list::list_jobs` meets its contract: a refusal stores nothing, and the jobs of an accepted file are stored.
-- Assumes nothing.
use mathlib.Core.Path.{refl, ◌∙◌}
use Rattle.timing_acceptance.specs.Laws.ListedLaws.{refused_answer, refused_after, jobs_most, jobs_within, passed_answer, passed_after}
use Rattle.timing_acceptance.proofs.job_list.list_jobs.Goals as goal

pub fill-requires : goal.fill-requires
fill-requires c =
    let listed = c.in-Ok.ensures c.args.list.now refl in (jobs_most _ _ listed, jobs_within _ _ listed)

pub returns-in-Ok : goal.returns-in-Ok
returns-in-Ok c =
    let listed = c.in-Ok.ensures c.args.list.now refl in
    (passed_answer _ _ listed, c.fill.ensures ∙ passed_after _ _ listed)

pub returns-in-Err : goal.returns-in-Err
returns-in-Err c =
    let listed = c.in-Err.ensures c.args.list.now refl in
    (rw c.number.ensures (refused_answer _ _ listed), refused_after _ _ listed)
