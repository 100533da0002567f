-- The two conversions. Document 01: "the conversions accept exactly the complete orders and the legal plans." An
-- order's steps fall into rounds, since "a round ends with a job's End": a step's round is the number of Ends before
-- it, and a round's guess is the store where it begins. A plan's steps make an order when they are read round by
-- round and, in a round, job by job.
-- Assumes nothing.
use Rattle.std.specs.Prelude.{ℕ, List, [], ◌∷◌, ◌++◌, map, take, eqb}
use Rattle.notation.specs.Checked.{Checked, passed, ◌>>=◌}
use Rattle.notation.specs.Lists.{up_to, only, each}
use Rattle.timing.specs.declared.Job.{Job}
use Rattle.timing.specs.Accepted.{Accepted}
use Rattle.timing.specs.Relations.{base, job_numbers}
use Rattle.machine.specs.Buffers.{Written}
use Rattle.machine.specs.Instructions.{Store}
use Rattle.order.specs.OrderBytes.{order_byte}
use Rattle.order.specs.OrderSteps.{OrderStep, order_steps, steps_of_job, is_end, ended_count}
use Rattle.order.specs.Replay.{replay}
use Rattle.plan.specs.Legality.{steps_of}
use Rattle.plan.specs.Plans.{legal_run, plan_end}
use Rattle.plan.specs.Runs.{Plan, JobRuns, job_total}

-- ---- from an order to a plan

-- the plan's bytes for one job: "for each of its steps, two bytes: round, Pick value or 0". Its round is the number of
-- jobs that have ended before it.
unfoldable pub job_bytes : Accepted → List OrderStep → Job → List ℕ
job_bytes a steps x = each (steps_of_job steps x) (λ step. ended_count a step.before ∷ step.value ∷ [])

-- the store after each End, where the next round begins
unfoldable pub end_stores : List OrderStep → List Store
end_stores steps = map (λ step. step.after.store) (only is_end steps)

-- "k; then k stores of 8 bytes, the guessed start of each round; then for each job in number order .."
unfoldable pub plan_of : Accepted → List ℕ → Plan
plan_of a order =
    let steps = order_steps a order in
    job_total a
    ∷ each (take (job_total a) (a.table.store ∷ end_stores steps)) (λ store. store)
    ++ each (job_numbers a) (job_bytes a steps)

unfoldable pub order_to_plan : Accepted → List ℕ → Checked ℕ Written
order_to_plan a order = do
  ending ← replay a order
  passed (record { ending = ending; bytes = plan_of a order })

-- ---- from a plan to an order

-- the order bytes of job x in round r
unfoldable pub step_bytes_in : Accepted → JobRuns → ℕ → Job → List ℕ
step_bytes_in a runs r x =
    map (λ step. order_byte (base a x) step.value) (only (λ step. eqb step.round.0 r) (steps_of runs x))

-- round by round, in each round job by job
unfoldable pub order_of : Accepted → JobRuns → List ℕ
order_of a runs = each (up_to (job_total a)) (λ r. each (job_numbers a) (step_bytes_in a runs r))

unfoldable pub plan_to_order : Accepted → Plan → Checked ℕ Written
plan_to_order a plan = do
  runs ← legal_run a plan
  passed (record { ending = plan_end a runs; bytes = order_of a runs })
