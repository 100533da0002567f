-- The guesses and the marks that an order makes, step by step: a step adds its mark to its job's, and a step that is
-- an End also sets the guess of the next round to the store that it leaves. They are the parts of the plan that the
-- order is written as.
-- Assumes nothing.
use Rattle.std.specs.Prelude.{◌≡◌, ℕ, zero, suc, Bool, List, [], ◌∷◌, map, set, replicate, eqb}
use Rattle.std.proofs.Math.Option.{none, some}
use Rattle.std.specs.Prelude.{if◌then◌else◌}
use Rattle.notation.specs.Lists.{only}
use Rattle.timing.specs.declared.Job.{Job}
use Rattle.timing.specs.Accepted.{Accepted}
use Rattle.machine.specs.Instructions.{Store}
use Rattle.order.specs.OrderBytes.{task_of_byte, value_of_byte}
use Rattle.order.specs.Orders.{turn_of, performed}
use Rattle.order.specs.OrderSteps.{OrderStep, order_steps, is_end, ended_count}
use Rattle.order.specs.States.{State, initial, has_ended}
use Rattle.plan.specs.Runs.{job_total}
use Rattle.matching.proofs.Laws.History.Histories.{Mark, Marks, marked}

-- the store where each round begins, and each job's steps
pub record Trace : Type 0 where
  pub guesses : List Store
  pub marks : Marks

-- a step with its round
pub record NotedStep : Type 0 where
  pub job : Job
  pub round : ℕ
  pub value : ℕ

-- its mark
unfoldable pub noted : NotedStep → Mark
noted step = record { round = step.round; value = step.value }

-- those of job x
abbrev pub of_job : ℕ → List NotedStep → List NotedStep
of_job x steps = only (λ step. eqb step.job.0 x) steps

-- an order's steps with their rounds, of which the first is r: a round ends with a job's End
unfoldable pub numbered : ℕ → List OrderStep → List NotedStep
numbered r [] = []
numbered r (step ∷ steps) =
    record { job = step.job; round = r; value = step.value } ∷ numbered (if is_end step then suc r else r) steps

-- a step with the number of jobs that have ended before it as its round
unfoldable pub counted_step : Accepted → OrderStep → NotedStep
counted_step a step = record { job = step.job; round = ended_count a step.before; value = step.value }

-- an order's rounds are these numbers
abbrev pub RoundsCounted : Accepted → List ℕ → Type 0
RoundsCounted a order = numbered 0 (order_steps a order) ≡ map (counted_step a) (order_steps a order)

-- the trace after a step of job x in round r, which may be its End and leaves this store
unfoldable pub traced : ℕ → ℕ → ℕ → Bool → Store → Trace → Trace
traced r x value ends store t =
    record {
      guesses = if ends then set t.guesses (suc r) store else t.guesses;
      marks = marked t.marks x (record { round = r; value = value });
    }

-- the trace after an order's bytes from a state on, in round r
unfoldable pub trace_from : Accepted → State → ℕ → Trace → List ℕ → Trace
trace_from a s r t [] = t
trace_from a s r t (byte ∷ bytes) =
    elim (turn_of a s (task_of_byte byte)) [
      | none ↦ t
      | some turn ↦
          let next = performed a s (value_of_byte byte) turn in
          let ends : Bool = has_ended next turn.frame.job in
          trace_from a next (if ends then suc r else r) (traced r turn.frame.job.0 (value_of_byte byte) ends next.store t) bytes
    ]

-- n guesses, of which the first is known
unfoldable pub first_guess : Store → ℕ → List Store
first_guess store zero = []
first_guess store (suc n) = store ∷ replicate n []

-- before an order's first step: the first round begins at the initial store, and no job has a step
unfoldable pub start_trace : Accepted → Trace
start_trace a = record { guesses = first_guess a.table.store (job_total a); marks = replicate (job_total a) [] }

-- the trace of an order
unfoldable pub trace_of : Accepted → List ℕ → Trace
trace_of a order = trace_from a (initial a) 0 (start_trace a) order
