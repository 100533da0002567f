-- The run of a round plan, numbers 40 to 42. Document 01, "Round plans": "With k jobs there are k rounds; a round
-- ends with a job's End. Plan bytes: k; then k stores of 8 bytes, the guessed start of each round; then for each job
-- in number order, for each of its steps, two bytes: round, Pick value or 0. Jobs run whole, in number order, each
-- step on its round's store, which at first is that round's guess."
-- Assumes nothing.
use Rattle.std.specs.Prelude.{ℕ, zero, suc, ◌+◌, ◌*◌, Bool, ◌&&◌, List, [], ◌∷◌, map, length, get_or, set, take, drop, leb, ltb, eqb}
use Rattle.taskfile.specs.Chains.{most_instructions}
use Rattle.notation.specs.Checked.{Checked, passed, require, ◌>>=◌, ◌>>◌}
use Rattle.taskfile.specs.declared.Instruction.{Instruction}
use Rattle.taskfile.specs.Judgement.{instruction_of}
use Rattle.std.specs.Prelude.{if◌then◌else◌}
use Rattle.notation.specs.Lists.{up_to, member}
use Rattle.taskfile.specs.Tables.{ceilings_of}
use Rattle.timing.specs.declared.Job.{Job}
use Rattle.timing.specs.Accepted.{Accepted}
use Rattle.timing.specs.Relations.{base, job_at, job_numbers}
use Rattle.machine.specs.declared.Local.{Local}
use Rattle.machine.specs.Ends.{Flags, no_flags, no_store, flagged}
use Rattle.machine.specs.Held.{priority}
use Rattle.machine.specs.declared.Effect.{Effect}
use Rattle.machine.specs.Instructions.{Store, fresh, values, perform}
use Rattle.plan.specs.declared.Round.{Round}

-- a plan is any bytes
abbrev pub Plan : Type 0
Plan = List ℕ

unfoldable pub job_total : Accepted → ℕ
job_total a = length a.jobs

-- "With k jobs there are k rounds"
unfoldable pub round_numbers : Accepted → List Round
round_numbers a = map (λ n. record { 0 = n }) (up_to (job_total a))

-- rounds follow each other by number
abbrev pub first_round : Round
first_round = record { 0 = 0 }

abbrev pub earlier : Round → Round → Bool
earlier q r = ltb q.0 r.0

abbrev pub not_later : Round → Round → Bool
not_later q r = leb q.0 r.0

-- "k stores of 8 bytes, the guessed start of each round"
unfoldable pub guess : Plan → Round → Store
guess plan r = take 8 (drop (1 + 8 * r.0) plan)

-- a step that a job has made: its round, its value, and the job's priority after it
pub record Step : Type 0 where
  pub round : Round
  pub value : ℕ
  pub priority_after : ℕ

-- where the run stands: the offset of the next byte, each round's store, the failed jobs
pub record RunState : Type 0 where
  pub offset : ℕ
  pub stores : List Store
  pub failed : Flags

-- the store of a round
abbrev pub store_in : RunState → Round → Store
store_in running r = get_or running.stores r.0 no_store

-- a job's steps from here to its End, and where the run then stands
pub record JobRun : Type 0 where
  pub steps : List Step
  pub running : RunState

-- the round of the step whose bytes are at an offset
abbrev pub round_at : Plan → ℕ → Round
round_at plan offset = record { 0 = get_or plan offset 0 }

-- One step's two bytes for its instruction, of k rounds, checked in the order 40, 42, 41. "40 SHAPE: .. bytes run out";
-- "42 ROUND: at least k, or below the job's previous step"; "41 VALUE: not a value its instruction allows".
unfoldable pub step_bytes_for : ℕ → Instruction → Plan → Round → ℕ → Checked ℕ (Unit {0})
step_bytes_for k instruction plan previous offset = do
  require (ltb (offset + 1) (length plan)) 40 (length plan)
  require (ltb (round_at plan offset).0 k && not_later previous (round_at plan offset)) 42 offset
  require (member (get_or plan (offset + 1) 0) (values instruction)) 41 (offset + 1)

-- those of job x's next step
unfoldable pub step_bytes : Accepted → Plan → Job → Local → Round → ℕ → Checked ℕ (Unit {0})
step_bytes a plan x local previous offset =
    step_bytes_for (job_total a) (instruction_of a.table (job_at a x).task local.next) plan previous offset

-- what the step does: its instruction, on the store of its round
unfoldable pub step_effect : Accepted → Plan → Job → Local → RunState → Effect
step_effect a plan x local running =
    perform (instruction_of a.table (job_at a x).task local.next) (get_or plan (running.offset + 1) 0) local
    (store_in running (round_at plan running.offset))

unfoldable pub step_made : Accepted → Plan → Job → RunState → Effect → Step
step_made a plan x running effect =
    record {
      round = round_at plan running.offset;
      value = get_or plan (running.offset + 1) 0;
      priority_after = priority (ceilings_of a.table) (base a x) effect.local.held;
    }

unfoldable pub running_after : Plan → Job → RunState → Effect → RunState
running_after plan x running effect =
    record {
      offset = running.offset + 2;
      stores = set running.stores (round_at plan running.offset).0 effect.store;
      failed = flagged effect.failed x.0 running.failed;
    }

-- A job runs whole: step after step until its End. A body has at most 16 instructions and skips go forward only, so
-- 16 steps are enough.
unfoldable pub run_job : Accepted → Plan → Job → ℕ → Local → Round → RunState → Checked ℕ JobRun
run_job a plan x zero local previous running = passed (record { steps = []; running = running })
run_job a plan x (suc left) local previous running = do
  step_bytes a plan x local previous running.offset
  let effect = step_effect a plan x local running
  let step = step_made a plan x running effect
  let next = running_after plan x running effect
  rest ← if effect.ended
      then passed (record { steps = []; running = next })
      else run_job a plan x left effect.local step.round next
  passed (record { steps = step ∷ rest.steps; running = rest.running })

-- the run of the listed jobs: each job's steps, and where the run then stands
pub record JobRuns : Type 0 where
  pub steps : List (List Step)
  pub running : RunState

unfoldable pub run_jobs : Accepted → Plan → List Job → RunState → Checked ℕ JobRuns
run_jobs a plan [] running = passed (record { steps = []; running = running })
run_jobs a plan (x ∷ xs) running = do
  one ← run_job a plan x most_instructions fresh first_round running
  others ← run_jobs a plan xs one.running
  passed (record { steps = one.steps ∷ others.steps; running = others.running })

-- the run before its first step: "each step on its round's store, which at first is that round's guess"
unfoldable pub run_start : Accepted → Plan → RunState
run_start a plan =
    record { offset = 1 + 8 * job_total a; stores = map (guess plan) (round_numbers a); failed = no_flags }

-- "40 SHAPE: first byte not k, bytes run out, or bytes left over; place is the offset of the first wrong, missing or
-- extra byte." "A plan checks 40 for the first byte and guesses, then per step 40, 42, 41, then leftover 40"
unfoldable pub run_plan : Accepted → Plan → Checked ℕ JobRuns
run_plan a plan = do
  require (ltb 0 (length plan) && eqb (get_or plan 0 0) (job_total a)) 40 0
  require (leb (1 + 8 * job_total a) (length plan)) 40 (length plan)
  runs ← run_jobs a plan (job_numbers a) (run_start a plan)
  require (eqb runs.running.offset (length plan)) 40 runs.running.offset
  passed runs
