-- Demand 3 of the entries: what a caller sees of both conversions, the replay and the plan check of a file that earns
-- no number, with buffers that have room. Document 01: "For an accepted table, and 20 aside, the conversions accept
-- exactly the complete orders and the legal plans. What is turned back is the bytes written up to the returned length,
-- without the zero fill." The contracts of the entries say that their answers and buffers are those named here.
-- Assumes nothing.
use Rattle.std.specs.Prelude.{◌≡◌, ◌↔◌, ℕ, ◌≤◌, List, length}
use Rattle.notation.specs.Checked.{passed}
use Rattle.taskfile.specs.Records.{File}
use Rattle.timing.specs.Accepted.{Accepted, accept}
use Rattle.machine.specs.Buffers.{order_room, plan_room}
use Rattle.machine.specs.declared.End.{End}
use Rattle.order.specs.Orders.{OrderEnds}
use Rattle.order.specs.Replay.{replay_answer}
use Rattle.plan.specs.Plans.{PlanEnds, plan_answer}
use Rattle.plan.specs.Runs.{Plan}
use Rattle.matching.specs.ConversionEntries.{order_to_plan_answer, plan_to_order_answer}
use Rattle.matching.specs.ConversionEntries.{AnswersEnd, plan_left, order_left}

-- of an accepted file's table, with a lent buffer for a plan and one for an order
pub record EntryDemand3 (f : File) (a : Accepted) (planBuffer orderBuffer : List ℕ) : Type 0 where
  -- the conversions accept exactly the complete orders and the legal plans, with their ends
  pub orders : (order : List ℕ) (e : End) → AnswersEnd (order_to_plan_answer f order planBuffer) e ↔ OrderEnds a order e
  pub plans : (plan : Plan) (e : End) → AnswersEnd (plan_to_order_answer f plan orderBuffer) e ↔ PlanEnds a plan e
  -- and so do the replay and the plan check
  pub replays : (order : List ℕ) (e : End) → AnswersEnd (replay_answer f order) e ↔ OrderEnds a order e
  pub checks : (plan : Plan) (e : End) → AnswersEnd (plan_answer f plan) e ↔ PlanEnds a plan e
  -- the plan that an order leaves, lent to the other entry, is accepted with the same end and leaves the same order
  pub order_back : (order : List ℕ) (e : End) → AnswersEnd (order_to_plan_answer f order planBuffer) e
      → AnswersEnd (plan_to_order_answer f (plan_left f order planBuffer) orderBuffer) e
      × (order_left f (plan_left f order planBuffer) orderBuffer ≡ order)
  -- the order that a plan leaves, lent to the other entry, is accepted with the same end and leaves the same plan
  pub plan_back : (plan : Plan) (e : End) → AnswersEnd (plan_to_order_answer f plan orderBuffer) e
      → AnswersEnd (order_to_plan_answer f (order_left f plan orderBuffer) planBuffer) e
      × (plan_left f (order_left f plan orderBuffer) planBuffer ≡ plan)

-- the demand: of every file that earns no number, and of buffers that have room
abbrev pub EntryMatchingDemand : Type 0
EntryMatchingDemand =
    (f : File) (a : Accepted) → accept f ≡ passed a → (planBuffer orderBuffer : List ℕ)
    → plan_room ≤ length planBuffer → order_room ≤ length orderBuffer → EntryDemand3 f a planBuffer orderBuffer
