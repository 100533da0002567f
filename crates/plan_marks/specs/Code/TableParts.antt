-- The check of a plan of a table's parts, as its function yields it.
-- Assumes nothing.
use Rattle.std.specs.Prelude.{◌≡◌, ℕ, Result, Ok, Err}
use Rattle.notation.specs.Checked.{refused}
use Rattle.taskfile.specs.Code.Refusals.{number_of}
use Rattle.taskfile.specs.declared.refusals.Refused.{Refused}
use Rattle.taskfile.specs.declared.Table.{Table}
use Rattle.timing.specs.declared.JobList.{JobList}
use Rattle.timing.specs.Accepted.{Accepted}
use Rattle.timing.specs.Code.IsAccepted.{IsAccepted}
use Rattle.timing.specs.Code.JobParts.{job_list_of}
use Rattle.plan.specs.Plans.{legal_run, Legal, plan_end}
use Rattle.plan.specs.Runs.{Plan, JobRuns, job_total}
use Rattle.plan_marks.specs.declared.PlanChecked.{PlanChecked}
use Rattle.plan_marks.specs.Code.Marks.{steps_in}

-- a plan is legal, and its run has this end and these steps
pub record LegalAs (a : Accepted) (plan : Plan) (checked : PlanChecked) : Type 0 where
  pub runs : JobRuns
  pub legal : Legal a plan runs
  pub ends : plan_end a runs ≡ checked.end
  pub steps : runs.steps ≡ steps_in checked.marks (job_total a)

-- a plan's check came to this: its end and its steps, or its refusal
abbrev pub PlanCheckedAs : Accepted → Plan → Result PlanChecked (Refused ℕ) → Type 0
PlanCheckedAs a plan (Ok checked) = LegalAs a plan checked
PlanCheckedAs a plan (Err e) = legal_run a plan ≡ refused (number_of e.why) e.place

-- a check of a plan of a table's parts: it comes to what the plan comes to, if they are an accepted table's
pub record PlanCheckedOf (t : Table) (list : JobList) (plan : Plan) (r : Result PlanChecked (Refused ℕ)) : Type 0 where
  pub checks : (a : Accepted) → IsAccepted a → t ≡ a.table → list ≡ job_list_of a.jobs → PlanCheckedAs a plan r
