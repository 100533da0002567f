-- The run of a plan as its functions yield it, in arrays. Functions that loop promise this of every accepted table that
-- their lent arrays hold.
-- Assumes nothing.
use Rattle.std.specs.Prelude.{◌≡◌, ℕ, ◌+◌, ◌*◌, ◌≤◌, ◌<◌, List, length, Result, IfOk, IfErr}
use Rattle.notation.specs.Checked.{mapped}
use Rattle.taskfile.specs.Code.Refusals.{outcome}
use Rattle.taskfile.specs.declared.refusals.Refused.{Refused}
use Rattle.taskfile.specs.Chains.{most_instructions}
use Rattle.taskfile.specs.declared.Ceilings.{Ceilings}
use Rattle.timing.specs.Accepted.{Accepted}
use Rattle.timing.specs.Code.IsAccepted.{IsAccepted}
use Rattle.timing.specs.Relations.{IsJob, job_numbers}
use Rattle.machine.specs.Ends.{Flags, flagged, no_flags}
use Rattle.machine.specs.Instructions.{fresh}
use Rattle.plan.specs.Runs.{Plan, JobRun, JobRuns, first_round, run_job, run_jobs, run_plan}
use Rattle.order_states.specs.Code.Shows.{LendsTimes}
use Rattle.plan_marks.specs.declared.JobRan.{JobRan}
use Rattle.plan_marks.specs.declared.JobsRan.{JobsRan}
use Rattle.plan_marks.specs.declared.PlanRan.{PlanRan}
use Rattle.plan_marks.specs.declared.Marks.{Marks}
use Rattle.plan_marks.specs.Code.Marks.{run_state_in, steps_marked, steps_in}

-- the lent arrays hold an accepted table of k jobs
pub record Holds (a : Accepted) (program times : List ℕ) (locks : Ceilings) (k : ℕ) : Type 0 where
  pub ok : IsAccepted a
  pub lends : LendsTimes a program times locks
  pub total : length a.jobs ≡ k

-- ---- one job

-- a job's steps and where the run then stands, for the flags that it started with
abbrev pub job_run_in : ℕ → ℕ → Flags → List ℕ → Marks → JobRan → JobRun
job_run_in k x failed stores marks ran =
    record {
      steps = steps_marked marks x;
      running = run_state_in k stores (flagged ran.failed x failed) ran.offset;
    }

-- a job's run over lent arrays, from an offset on: `stores` and `marks` before it, `stores'` and `marks'` after it
pub record JobRanOf (program : List ℕ) (locks : Ceilings) (plan : Plan) (k x start : ℕ) (stores : List ℕ)
    (marks : Marks) (stores' : List ℕ) (marks' : Marks) (r : Result JobRan (Refused ℕ)) : Type 0 where
  pub room : length stores' ≡ length stores
  -- the marks of other jobs are kept
  pub others : (y : ℕ) → y < 32 → (y ≡ x → ⊥) → steps_marked marks' y ≡ steps_marked marks y
  pub near : IfOk r (λ ran. ran.offset ≤ start + 32)
  -- a refusal is of one of those steps
  pub stopped : IfErr r (λ e. e.place ≤ start + 32)
  pub ran : (a : Accepted) (times : List ℕ) → Holds a program times locks k → IsJob a (record { 0 = x })
      → (failed : Flags)
      → mapped (job_run_in k x failed stores' marks') (outcome r)
      ≡ run_job a plan (record { 0 = x }) most_instructions fresh first_round (run_state_in k stores failed start)

-- ---- all jobs

-- the steps of the first k jobs and where the run then stands
abbrev pub job_runs_in : ℕ → List ℕ → Marks → JobsRan → JobRuns
job_runs_in k stores marks ran =
    record { steps = steps_in marks k; running = run_state_in k stores ran.failed ran.offset }

-- the run of all jobs over lent arrays, from the offset after the guesses on
pub record JobsRanOf (program : List ℕ) (locks : Ceilings) (plan : Plan) (k : ℕ) (stores : List ℕ)
    (stores' : List ℕ) (marks' : Marks) (r : Result JobsRan (Refused ℕ)) : Type 0 where
  pub room : length stores' ≡ length stores
  pub near : IfOk r (λ ran. ran.offset ≤ 1281)
  pub stopped : IfErr r (λ e. e.place ≤ 1281)
  pub ran : (a : Accepted) (times : List ℕ) → Holds a program times locks k
      → mapped (job_runs_in k stores' marks') (outcome r)
      ≡ run_jobs a plan (job_numbers a) (run_state_in k stores no_flags (1 + 8 * k))

-- ---- a plan

-- the steps of a plan's jobs, the stores left in the rounds and the failed jobs, where all its bytes are read
abbrev pub plan_run_in : ℕ → Plan → PlanRan → JobRuns
plan_run_in k plan ran =
    record {
      steps = steps_in ran.marks k;
      running = run_state_in k ran.stores ran.failed (length plan);
    }

-- the run of a plan over lent arrays
pub record PlanRanOf (program : List ℕ) (locks : Ceilings) (plan : Plan) (k : ℕ) (r : Result PlanRan (Refused ℕ)) : Type 0
  where
    -- a plan that ran has its guesses
    pub long : IfOk r (λ ran. 1 + 8 * k ≤ length plan)
    pub ran : (a : Accepted) (times : List ℕ) → Holds a program times locks k
        → mapped (plan_run_in k plan) (outcome r) ≡ run_plan a plan
