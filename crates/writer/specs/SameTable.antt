-- Two tables that are the same table: the arrays of a `Table` are longer than what they hold, and what stands past the
-- counts is no part of the table.
-- Assumes nothing.
use Rattle.std.specs.Prelude.{ℕ, ◌≡◌, List, map}
use Rattle.taskfile.specs.declared.Instruction.{Instruction}
use Rattle.taskfile.specs.declared.Table.{Table}
use Rattle.taskfile.specs.declared.TaskEntry.{TaskEntry}
use Rattle.taskfile.specs.Tables.{tasks_of, body_of, ceilings_of, holdings_of}

-- what a table says of one task: its times, and its body
pub record TaskContents : Type 0 where
  pub execution : ℕ
  pub period : ℕ
  pub arrival : ℕ
  pub body : List Instruction

unfoldable pub contents_of : TaskEntry → TaskContents
contents_of e = record { execution = e.execution; period = e.period; arrival = e.arrival; body = body_of e }

-- they hold the same window, store and tasks, and the same ceilings and holding times of locks
pub record SameTable (t u : Table) : Type 0 where
  pub window : t.window ≡ u.window
  pub store : t.store ≡ u.store
  pub tasks : map contents_of (tasks_of t) ≡ map contents_of (tasks_of u)
  pub ceilings : ceilings_of t ≡ ceilings_of u
  pub holdings : holdings_of t ≡ holdings_of u
