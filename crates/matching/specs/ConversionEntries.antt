-- What the two conversions' entries answer, and what their lent buffers then hold, for every input. Document 01,
-- "Numbers by who causes them": the file's numbers, "Then 20", then those of the order or the plan.
-- Assumes nothing.
use Rattle.std.specs.Prelude.{◌≡◌, ℕ, List, length, take, leb}
use Rattle.notation.specs.Checked.{Checked, require, ◌>>=◌, ◌>>◌}
use Rattle.taskfile.specs.Records.{File}
use Rattle.timing.specs.Accepted.{accept}
use Rattle.machine.specs.declared.RunAnswer.{RunAnswer}
use Rattle.machine.specs.declared.End.{End}
use Rattle.machine.specs.Buffers.{Written, run_answer, buffer_after, order_room, plan_room}
use Rattle.plan.specs.Runs.{Plan}
use Rattle.matching.specs.Conversions.{order_to_plan, plan_to_order}

-- the order's plan, for a buffer of so many bytes
unfoldable pub planned_order : File → List ℕ → List ℕ → Checked ℕ Written
planned_order f order buffer = do
  a ← accept f
  require (leb plan_room (length buffer)) 20 0
  order_to_plan a order

unfoldable pub order_to_plan_answer : File → List ℕ → List ℕ → RunAnswer
order_to_plan_answer f order buffer = run_answer (planned_order f order buffer)

unfoldable pub order_to_plan_after : File → List ℕ → List ℕ → List ℕ
order_to_plan_after f order buffer = buffer_after plan_room (planned_order f order buffer) buffer

-- the plan's order
unfoldable pub ordered_plan : File → Plan → List ℕ → Checked ℕ Written
ordered_plan f plan buffer = do
  a ← accept f
  require (leb order_room (length buffer)) 20 0
  plan_to_order a plan

unfoldable pub plan_to_order_answer : File → Plan → List ℕ → RunAnswer
plan_to_order_answer f plan buffer = run_answer (ordered_plan f plan buffer)

unfoldable pub plan_to_order_after : File → Plan → List ℕ → List ℕ
plan_to_order_after f plan buffer = buffer_after order_room (ordered_plan f plan buffer) buffer

-- ---- what a caller sees

-- an entry accepts, and answers this end
pub record AnswersEnd (x : RunAnswer) (e : End) : Type 0 where
  pub number : x.number ≡ 0
  pub place : x.place ≡ 0
  pub store : x.store ≡ e.store
  pub failed : x.failed ≡ e.failed

-- "the bytes written up to the returned length, without the zero fill": the plan of an order, and the order of a plan
unfoldable pub plan_left : File → List ℕ → List ℕ → Plan
plan_left f order buffer = take (order_to_plan_answer f order buffer).length (order_to_plan_after f order buffer)

unfoldable pub order_left : File → Plan → List ℕ → List ℕ
order_left f plan buffer = take (plan_to_order_answer f plan buffer).length (plan_to_order_after f plan buffer)
