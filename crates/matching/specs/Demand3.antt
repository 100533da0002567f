-- The theorem of demand 3, for every file that earns no number: the complete orders of its table and its legal plans
-- match one to one. Each complete order turns into a legal plan with the same end store and failed jobs, and that plan
-- back into the same bytes; each legal plan turns into a complete order with the same end store and failed jobs, and
-- that order back into the same bytes. So some complete order ends with a store and failed jobs exactly when some legal
-- plan does. An order and its plan have the same steps with the same values, and a step's round is the number of Ends
-- before it. Document 01, "Round plans" and "Numbers by who causes them".
-- Assumes nothing.
use Rattle.std.specs.Prelude.{◌≡◌, ◌↔◌, ℕ, ◌≤◌, List, length}
use Rattle.notation.specs.Checked.{passed}
use Rattle.taskfile.specs.Records.{File}
use Rattle.timing.specs.Accepted.{Accepted, accept}
use Rattle.machine.specs.Buffers.{order_room, plan_room}
use Rattle.machine.specs.declared.End.{End}
use Rattle.order.specs.Orders.{OrderEnds}
use Rattle.plan.specs.Plans.{PlanEnds}
use Rattle.plan.specs.Runs.{Plan}
use Rattle.matching.specs.Conversions.{order_to_plan, plan_to_order}
use Rattle.matching.specs.PlannedSteps.{StepsPlanned}

-- the order turns into this plan, and ends so
abbrev pub OrderGives : Accepted → List ℕ → End → Plan → Type 0
OrderGives a order e plan = order_to_plan a order ≡ passed (record { ending = e; bytes = plan })

-- the plan turns into this order, and ends so
abbrev pub PlanGives : Accepted → Plan → End → List ℕ → Type 0
PlanGives a plan e order = plan_to_order a plan ≡ passed (record { ending = e; bytes = order })

-- of an accepted table
pub record Demand3 (a : Accepted) : Type 0 where
  -- the conversions accept exactly the complete orders and the legal plans, with their ends
  pub orders : (order : List ℕ) (e : End) → ((plan : Plan) × OrderGives a order e plan) ↔ OrderEnds a order e
  pub plans : (plan : Plan) (e : End) → ((order : List ℕ) × PlanGives a plan e order) ↔ PlanEnds a plan e
  -- an order turns into a plan that turns into the same bytes, with the same end
  pub order_back : (order : List ℕ) (plan : Plan) (e : End) → OrderGives a order e plan → PlanGives a plan e order
  -- and a plan into an order that turns into the same bytes, with the same end
  pub plan_back : (plan : Plan) (order : List ℕ) (e : End) → PlanGives a plan e order → OrderGives a order e plan
  -- so some complete order ends so exactly when some legal plan does
  pub same_ends : (e : End) → ((order : List ℕ) × OrderEnds a order e) ↔ ((plan : Plan) × PlanEnds a plan e)
  -- an order's plan has the order's steps, each with its value and, as its round, the number of Ends before it
  pub rounds : (order : List ℕ) (plan : Plan) (e : End) → OrderGives a order e plan → StepsPlanned a order plan
  -- a plan has at most 1,281 bytes and an order at most 512, so no zero fill cuts one (`WrittenLaws`)
  pub plan_fits : (order : List ℕ) (plan : Plan) (e : End) → OrderGives a order e plan → length plan ≤ plan_room
  pub order_fits : (plan : Plan) (order : List ℕ) (e : End) → PlanGives a plan e order → length order ≤ order_room

-- the demand: of every file that earns no number. "A table is accepted if its file earns no number."
abbrev pub MatchingDemand : Type 0
MatchingDemand = (f : File) (a : Accepted) → accept f ≡ passed a → Demand3 a
