-- The order that is written of a table's legal plan.
-- Assumes nothing.
use Rattle.std.specs.Prelude.{◌≡◌, ℕ, ◌≤◌, List, length}
use Rattle.taskfile.specs.declared.Table.{Table}
use Rattle.timing.specs.declared.JobList.{JobList}
use Rattle.timing.specs.Accepted.{Accepted}
use Rattle.timing.specs.Code.IsAccepted.{IsAccepted}
use Rattle.timing.specs.Code.JobParts.{job_list_of}
use Rattle.machine.specs.Buffers.{order_room, filled}
use Rattle.plan.specs.Plans.{Legal}
use Rattle.plan.specs.Runs.{Plan, JobRuns, job_total}
use Rattle.matching.specs.Conversions.{order_of}
use Rattle.plan_marks.specs.declared.Marks.{Marks}
use Rattle.plan_marks.specs.Code.Marks.{steps_in}

-- the order of a table's legal plan, whose steps these marks are, stands in the buffer, with zeros after it
pub record OrderWritten (t : Table) (list : JobList) (marks : Marks) (before after : List ℕ) (n : ℕ) : Type 0 where
  pub fits : n ≤ order_room
  pub written : (a : Accepted) → IsAccepted a → t ≡ a.table → list ≡ job_list_of a.jobs
      → (plan : Plan) (runs : JobRuns) → Legal a plan runs → runs.steps ≡ steps_in marks (job_total a)
      → (n ≡ length (order_of a runs)) × (after ≡ filled order_room (order_of a runs) before)
