-- What a table that was loaded is like: its arrays are full, its store has eight bytes, no body is empty, and each
-- instruction offers some value and none above 15.
-- Assumes nothing.
use Rattle.std.specs.Prelude.{◌≡◌, ℕ, ◌≤◌, ◌<◌, length}
use Rattle.taskfile.specs.declared.Table.{Table}
use Rattle.taskfile.specs.declared.Task.{Task}
use Rattle.taskfile.specs.Judgement.{instruction_of}
use Rattle.taskfile.specs.Code.Choices.{Chooses}
use Rattle.taskfile.specs.Code.JudgingParts.{Shaped}
use Rattle.taskfile.specs.Tables.{tasks_of, task_of, body_of}

-- what a table that was loaded is like
pub record WellMade (t : Table) : Type 0 where
  pub shaped : Shaped t
  pub store : length t.store ≡ 8
  pub bodies : (i : Task) → i.0 < length (tasks_of t) → 1 ≤ length (body_of (task_of t i))
  pub choices : (i : Task) (p : ℕ) → Chooses (instruction_of t i p)
