-- The steps of an order in a plan: whose step each byte of the order is, and where that step stands in the plan's run,
-- with its value and its round. Document 01, "Round plans": "a round ends with a job's End. .. for each job in number
-- order, for each of its steps, two bytes: round, Pick value or 0."
-- Assumes nothing.
use Rattle.std.specs.Prelude.{◌≡◌, ℕ, List, ◌∷◌, ◌++◌, length}
use Rattle.std.proofs.Math.Option.{some}
use Rattle.timing.specs.declared.Job.{Job}
use Rattle.timing.specs.Accepted.{Accepted}
use Rattle.timing.specs.Relations.{IsJob}
use Rattle.order.specs.OrderBytes.{task_of_byte, value_of_byte}
use Rattle.order.specs.Orders.{Turn, turn_of, run}
use Rattle.order.specs.OrderSteps.{steps_made, ended_count}
use Rattle.order.specs.States.{State, initial}
use Rattle.plan.specs.Legality.{steps_of}
use Rattle.plan.specs.Plans.{Legal}
use Rattle.plan.specs.Runs.{Plan, Step, JobRuns}

-- the step of the byte that comes after the bytes `earlier`, in a plan's run
pub record StepPlanned (a : Accepted) (runs : JobRuns) (earlier : List ℕ) (byte : ℕ) : Type 0 where
  -- the state after `earlier`, and the job whose turn the byte is
  pub before : State
  pub reached : run a (initial a) earlier ≡ some before
  pub turn : Turn
  pub due : turn_of a before (task_of_byte byte) ≡ some turn
  -- the plan's steps of that job: as many as it has made in `earlier`, then this one
  pub made : List Step
  pub step : Step
  pub left : List Step
  pub cut : steps_of runs turn.frame.job ≡ made ++ (step ∷ left)
  pub as_many : length made ≡ steps_made a earlier turn.frame.job
  -- it has its value from the order and, as its round, the number of Ends before it: so many jobs have ended
  pub value : step.value ≡ value_of_byte byte
  pub round : step.round.0 ≡ ended_count a before

-- the plan's steps are the order's
pub record StepsPlanned (a : Accepted) (order : List ℕ) (plan : Plan) : Type 0 where
  -- the plan's run
  pub runs : JobRuns
  pub legal : Legal a plan runs
  -- each byte of the order has its step in it
  pub each_byte : (earlier : List ℕ) (byte : ℕ) (later : List ℕ) → order ≡ earlier ++ (byte ∷ later)
      → StepPlanned a runs earlier byte
  -- and there are no others: each job has as many as in the order
  pub no_others : (x : Job) → IsJob a x → length (steps_of runs x) ≡ steps_made a order x
