-- What a table holds, and the table that a file's chains spell. Document 01, "The task file".
-- The arrays of a `Table` are longer than what they hold; `tasks_of`, `body_of`, `ceilings_of` and `holdings_of` are what
-- they hold, and the sections above read a table by these alone.
-- Assumes nothing.
use Rattle.std.specs.Prelude.{ℕ, List, [], map, length, get_or, take, drop, replicate}
use Rattle.taskfile.specs.declared.Instruction.{Instruction}
use Rattle.taskfile.specs.declared.Table.{Table}
use Rattle.taskfile.specs.declared.Task.{Task}
use Rattle.taskfile.specs.declared.TaskEntry.{TaskEntry}
use Rattle.taskfile.specs.Chains.{Chains, TaskChain, most_instructions, most_tasks, most_locks}
use Rattle.notation.specs.Lists.{up_to, padded}
use Rattle.taskfile.specs.Records.{File, byte_at, wide_at, instruction_at}

-- the instruction End, and a task with no body: what fills the arrays up
abbrev pub end_instruction : Instruction
end_instruction = record { operation = 0; a = 0; b = 0; c = 0 }

unfoldable pub no_task : TaskEntry
no_task = record { execution = 0; period = 0; arrival = 0; length = 0; body = padded most_instructions end_instruction [] }

unfoldable pub empty_table : Table
empty_table =
    record {
      window = 0;
      store = replicate 8 0;
      tasks = 0;
      entries = replicate 8 no_task;
      locks = 0;
      ceilings = replicate 8 0;
      holdings = replicate 8 0;
    }

-- "Tasks and locks are numbered from 0 in chain order."
unfoldable pub tasks_of : Table → List TaskEntry
tasks_of t = take t.tasks t.entries

unfoldable pub task_of : Table → Task → TaskEntry
task_of t i = get_or (tasks_of t) i.0 no_task

unfoldable pub body_of : TaskEntry → List Instruction
body_of e = take e.length e.body

unfoldable pub ceilings_of : Table → List ℕ
ceilings_of t = take t.locks t.ceilings

-- the longest holding time H of each lock
unfoldable pub holdings_of : Table → List ℕ
holdings_of t = take t.locks t.holdings

-- the locks by number, and the longest holding time of one
unfoldable pub lock_numbers : Table → List ℕ
lock_numbers t = up_to (length (holdings_of t))

unfoldable pub holding_of : Table → ℕ → ℕ
holding_of t lock = get_or (holdings_of t) lock 0

-- "Kind 2, task: .. 4-7 execution time C, 8-11 period P, 12-15 first arrival A."
unfoldable pub entry_at : File → TaskChain → TaskEntry
entry_at f c =
    record {
      execution = wide_at f c.task_record 4;
      period = wide_at f c.task_record 8;
      arrival = wide_at f c.task_record 12;
      length = length c.body;
      body = padded most_instructions end_instruction (map (instruction_at f) c.body);
    }

-- "Kind 1, header: .. 4-7 window W, 8-15 the initial values of shared variables 0 to 7. .. Kind 3, lock: byte 2
-- ceiling"; document 02, E4: "Lock bytes 4-7 become the longest holding time H"
unfoldable pub table_at : File → Chains → Table
table_at f c =
    record {
      window = wide_at f 0 4;
      store = take 8 (drop 8 f);
      tasks = length c.tasks;
      entries = padded most_tasks no_task (map (entry_at f) c.tasks);
      locks = length c.locks;
      ceilings = padded most_locks 0 (map (λ r. byte_at f r 2) c.locks);
      holdings = padded most_locks 0 (map (λ r. wide_at f r 4) c.locks);
    }
