-- The steps that an order's bytes make. Document 01, "Orders of steps": "An order byte is 16 × task + value .. each
-- byte is a step from the state that the last one left."
-- Assumes nothing.
use Rattle.std.specs.Prelude.{ℕ, Bool, List, [], ◌∷◌, length, eqb}
use Rattle.std.proofs.Math.Option.{none, some}
use Rattle.notation.specs.Lists.{only}
use Rattle.timing.specs.declared.Job.{Job}
use Rattle.timing.specs.Accepted.{Accepted}
use Rattle.timing.specs.Relations.{job_numbers}
use Rattle.order.specs.OrderBytes.{task_of_byte, value_of_byte}
use Rattle.order.specs.Orders.{turn_of, performed}
use Rattle.order.specs.States.{State, initial, has_ended}

-- a step of an order: its job and its value, and the states before and after it
pub record OrderStep : Type 0 where
  pub job : Job
  pub value : ℕ
  pub before : State
  pub after : State

-- the steps that bytes make from a state on
unfoldable pub steps_from : Accepted → State → List ℕ → List OrderStep
steps_from a s [] = []
steps_from a s (byte ∷ bytes) =
    elim (turn_of a s (task_of_byte byte)) [
      | none ↦ []
      | some turn ↦
          let next = performed a s (value_of_byte byte) turn in
          record { job = turn.frame.job; value = value_of_byte byte; before = s; after = next } ∷ steps_from a next bytes
    ]

-- an order's steps
unfoldable pub order_steps : Accepted → List ℕ → List OrderStep
order_steps a order = steps_from a (initial a) order

-- those of job x
unfoldable pub steps_of_job : List OrderStep → Job → List OrderStep
steps_of_job steps x = only (λ step. eqb step.job.0 x.0) steps

-- how many of an order's steps are of job x
unfoldable pub steps_made : Accepted → List ℕ → Job → ℕ
steps_made a order x = length (steps_of_job (order_steps a order) x)

-- is the step its job's End?
unfoldable pub is_end : OrderStep → Bool
is_end step = has_ended step.after step.job

-- how many jobs have ended
unfoldable pub ended_count : Accepted → State → ℕ
ended_count a s = length (only (has_ended s) (job_numbers a))
