-- Legal plans and how they end, and the plan check's answer for every input. Document 01, "Round plans": "The end
-- store is that of the last round, or the initial store if k is 0. A plan ends with that store and the jobs its run
-- noted as failed."
-- Assumes nothing.
use Rattle.std.specs.Prelude.{◌≡◌, ℕ}
use Rattle.notation.specs.Checked.{Checked, passed, ◌>>=◌, ◌>>◌}
use Rattle.notation.specs.Lists.{last_or}
use Rattle.taskfile.specs.Records.{File}
use Rattle.timing.specs.Accepted.{Accepted, accept}
use Rattle.machine.specs.declared.RunAnswer.{RunAnswer}
use Rattle.machine.specs.declared.End.{End}
use Rattle.machine.specs.Buffers.{run_answer, unwritten}
use Rattle.plan.specs.Legality.{legality}
use Rattle.plan.specs.Runs.{Plan, JobRuns, run_plan}

-- a legal plan's run, or the first of 40 to 45 that the plan earns
unfoldable pub legal_run : Accepted → Plan → Checked ℕ JobRuns
legal_run a plan = do
  runs ← run_plan a plan
  legality a plan runs
  passed runs

unfoldable pub plan_end : Accepted → JobRuns → End
plan_end a runs = record { store = last_or a.table.store runs.running.stores; failed = runs.running.failed }

-- a plan is legal, and its run is this one
abbrev pub Legal : Accepted → Plan → JobRuns → Type 0
Legal a plan runs = legal_run a plan ≡ passed runs

-- a legal plan, and how it ends: "A plan ends with that store and the jobs its run noted as failed."
pub record PlanEnds (a : Accepted) (plan : Plan) (e : End) : Type 0 where
  pub runs : JobRuns
  pub legal : Legal a plan runs
  pub ends : plan_end a runs ≡ e

unfoldable pub check_plan : Accepted → Plan → Checked ℕ End
check_plan a plan = do
  runs ← legal_run a plan
  passed (plan_end a runs)

-- the plan check's entry: the file's numbers, then the plan's
unfoldable pub checked : File → Plan → Checked ℕ End
checked f plan = do
  a ← accept f
  check_plan a plan

unfoldable pub plan_answer : File → Plan → RunAnswer
plan_answer f plan = run_answer (unwritten (checked f plan))
