-- The plan that is written of a table's complete order.
-- Assumes nothing.
use Rattle.std.specs.Prelude.{◌≡◌, ℕ, ◌≤◌, List, length}
use Rattle.taskfile.specs.declared.Table.{Table}
use Rattle.timing.specs.declared.JobList.{JobList}
use Rattle.timing.specs.Accepted.{Accepted}
use Rattle.timing.specs.Code.IsAccepted.{IsAccepted}
use Rattle.timing.specs.Code.JobParts.{job_list_of}
use Rattle.machine.specs.Buffers.{plan_room, filled}
use Rattle.order.specs.Orders.{Complete}
use Rattle.order.specs.States.{State}
use Rattle.matching.specs.Conversions.{plan_of}

-- the plan of a table's complete order stands in the buffer, with zeros after it
pub record PlanWritten (t : Table) (list : JobList) (order before after : List ℕ) (n : ℕ) : Type 0 where
  pub fits : n ≤ plan_room
  pub written : (a : Accepted) → IsAccepted a → t ≡ a.table → list ≡ job_list_of a.jobs
      → (s : State) → Complete a order s
      → (n ≡ length (plan_of a order)) × (after ≡ filled plan_room (plan_of a order) before)
