-- The table of a text as its reader makes it: line by line, each adding its part to the arrays of the table so far.
-- That this is the table of the text (`TextTables.table_of`) is the law of `Laws/AddedLinesLaws`.
-- Assumes nothing.
use Rattle.std.specs.Prelude.{ℕ, suc, min, ◌-◌, List, [], ◌∷◌, get_or, set}
use Rattle.notation.specs.Lists.{bytes_at}
use Rattle.taskfile.specs.declared.Instruction.{Instruction}
use Rattle.taskfile.specs.declared.Table.{Table}
use Rattle.taskfile.specs.declared.TaskEntry.{TaskEntry}
use Rattle.taskfile.specs.Chains.{most_tasks, most_locks, most_instructions}
use Rattle.taskfile.specs.Tables.{no_task}
use Rattle.writer.specs.declared.Lock.{Lock}
use Rattle.texts.specs.declared.Form.{Form}
use Rattle.texts.specs.declared.Form.TheVariants.{WindowLine, StartLine, TaskLine, InstructionLine, LockLine}
use Rattle.texts.specs.Grammar.{Line}
use Rattle.texts.specs.TextTables.{instruction_with, task_with, lock_with}

-- one more, and never more than one too many
unfoldable pub counted : ℕ → ℕ → ℕ
counted most count = min (suc most) (suc count)

unfoldable pub with_window : Table → ℕ → Table
with_window t window =
    record {
      window = window;
      store = t.store;
      tasks = t.tasks;
      entries = t.entries;
      locks = t.locks;
      ceilings = t.ceilings;
      holdings = t.holdings;
    }

unfoldable pub with_store : Table → List ℕ → Table
with_store t store =
    record {
      window = t.window;
      store = store;
      tasks = t.tasks;
      entries = t.entries;
      locks = t.locks;
      ceilings = t.ceilings;
      holdings = t.holdings;
    }

unfoldable pub with_tasks : Table → ℕ → List TaskEntry → Table
with_tasks t tasks entries =
    record {
      window = t.window;
      store = t.store;
      tasks = tasks;
      entries = entries;
      locks = t.locks;
      ceilings = t.ceilings;
      holdings = t.holdings;
    }

unfoldable pub add_task : Table → TaskEntry → Table
add_task t e = with_tasks t (counted most_tasks t.tasks) (set t.entries t.tasks e)

-- one instruction more at the end of a task's body
unfoldable pub longer_task : TaskEntry → Instruction → TaskEntry
longer_task e i =
    record {
      execution = e.execution;
      period = e.period;
      arrival = e.arrival;
      length = counted most_instructions e.length;
      body = set e.body e.length i;
    }

-- an instruction belongs to the task that came last
unfoldable pub add_instruction : Table → Instruction → Table
add_instruction t i =
    let last = t.tasks - 1 in
    with_tasks t t.tasks (set t.entries last (longer_task (get_or t.entries last no_task) i))

unfoldable pub add_lock : Table → Lock → Table
add_lock t lock =
    record {
      window = t.window;
      store = t.store;
      tasks = t.tasks;
      entries = t.entries;
      locks = counted most_locks t.locks;
      ceilings = set t.ceilings t.locks lock.ceiling;
      holdings = set t.holdings t.locks lock.holding;
    }

-- a task line adds a task that has no instruction yet
unfoldable pub add_part : Table → Form → List ℕ → Table
add_part t WindowLine numbers = with_window t (get_or numbers 0 0)
add_part t StartLine numbers = with_store t (bytes_at numbers 0 8)
add_part t TaskLine numbers = add_task t (task_with numbers [])
add_part t (InstructionLine operation) numbers = add_instruction t (instruction_with operation numbers)
add_part t LockLine numbers = add_lock t (lock_with numbers)

-- each line adds its part to the table
unfoldable pub add_lines : Table → List Line → Table
add_lines t [] = t
add_lines t (l ∷ lines) = add_lines (add_part t l.form l.numbers) lines
