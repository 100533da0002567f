-- How the small tables of computed examples are written.
-- Assumes nothing.
use Rattle.std.specs.Prelude.{ℕ, List, [], ◌∷◌, length, replicate}
use Rattle.notation.specs.Lists.{padded}
use Rattle.taskfile.specs.declared.Instruction.{Instruction}
use Rattle.taskfile.specs.declared.Table.{Table}
use Rattle.taskfile.specs.declared.TaskEntry.{TaskEntry}
use Rattle.taskfile.specs.Chains.{most_instructions, most_locks, most_tasks}
use Rattle.taskfile.specs.Tables.{end_instruction, no_task}

abbrev pub instruction : ℕ → ℕ → ℕ → ℕ → Instruction
instruction operation a b c = record { operation = operation; a = a; b = b; c = c }

-- a task: C, P, A and its body
abbrev pub task : ℕ → ℕ → ℕ → List Instruction → TaskEntry
task execution period arrival body =
    record {
      execution = execution;
      period = period;
      arrival = arrival;
      length = length body;
      body = padded most_instructions end_instruction body;
    }

-- a table: its window, the first variable's initial value, its tasks, and its locks' ceilings and holding times
abbrev pub locked_table : ℕ → ℕ → List TaskEntry → List ℕ → List ℕ → Table
locked_table window first tasks ceilings holdings =
    record {
      window = window;
      store = first ∷ replicate 7 0;
      tasks = length tasks;
      entries = padded most_tasks no_task tasks;
      locks = length ceilings;
      ceilings = padded most_locks 0 ceilings;
      holdings = padded most_locks 0 holdings;
    }

-- a table whose locks have no holding times
abbrev pub table : ℕ → ℕ → List TaskEntry → List ℕ → Table
table window first tasks ceilings = locked_table window first tasks ceilings []
