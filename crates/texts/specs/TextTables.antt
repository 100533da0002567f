-- The table that lines spell, and the lines of a table. Document 02, E5: "Each table has one text".
-- A text may have more tasks, instructions and locks than a table holds. Its table then claims one too many, and never
-- more, which is refused by 5, whatever stands in it and after it (`Claims`).
-- Assumes nothing.
use Rattle.std.specs.Prelude.{ℕ, suc, min, List, [], ◌∷◌, ◌++◌, map, get_or, take, length}
use Rattle.notation.specs.Lists.{each, padded}
use Rattle.notation.specs.Texts.{Text}
use Rattle.taskfile.specs.declared.Instruction.{Instruction}
use Rattle.taskfile.specs.declared.Table.{Table}
use Rattle.taskfile.specs.declared.TaskEntry.{TaskEntry}
use Rattle.taskfile.specs.Chains.{most_tasks, most_locks, most_instructions}
use Rattle.taskfile.specs.Tables.{tasks_of, body_of, end_instruction, no_task, empty_table}
use Rattle.writer.specs.declared.Lock.{Lock}
use Rattle.writer.specs.Claims.{lock_array}
use Rattle.texts.specs.declared.Form.{Form}
use Rattle.texts.specs.declared.Form.TheVariants.{WindowLine, StartLine, TaskLine, InstructionLine, LockLine}
use Rattle.texts.specs.Grammar.{Line, line_with, row_of, joined}

-- ---- from lines to a table

-- The numbers of a line are its fields in order; the fields of an instruction that it does not use are zero.
unfoldable pub instruction_with : ℕ → List ℕ → Instruction
instruction_with operation numbers =
    record { operation = operation; a = get_or numbers 0 0; b = get_or numbers 1 0; c = get_or numbers 2 0 }

-- "`task` C P A", and the body that its instruction lines are
unfoldable pub task_with : List ℕ → List Instruction → TaskEntry
task_with numbers body =
    record {
      execution = get_or numbers 0 0;
      period = get_or numbers 1 0;
      arrival = get_or numbers 2 0;
      length = min (suc most_instructions) (length body);
      body = padded most_instructions end_instruction body;
    }

-- "`lock` ceiling H"
unfoldable pub lock_with : List ℕ → Lock
lock_with numbers = record { ceiling = get_or numbers 0 0; holding = get_or numbers 1 0 }

-- Lines in groups: the instructions ahead of the first task line, which are the body of a task line in front of them;
-- the tasks, each with its body; the locks.
pub record Groups : Type 0 where
  pub body : List Instruction
  pub tasks : List TaskEntry
  pub locks : List Lock

-- A line in front of lines in groups: "each task line followed by its instruction lines". A window or start line is not
-- among them, since it comes first.
unfoldable pub in_front : Form → List ℕ → Groups → Groups
in_front WindowLine numbers g = g
in_front StartLine numbers g = g
in_front TaskLine numbers g =
    record { body = []; tasks = task_with numbers g.body ∷ g.tasks; locks = g.locks }
in_front (InstructionLine operation) numbers g =
    record { body = instruction_with operation numbers ∷ g.body; tasks = g.tasks; locks = g.locks }
in_front LockLine numbers g = record { body = g.body; tasks = g.tasks; locks = lock_with numbers ∷ g.locks }

unfoldable pub grouped : List Line → Groups
grouped [] = record { body = []; tasks = []; locks = [] }
grouped (l ∷ lines) = in_front l.form l.numbers (grouped lines)

-- "a `window` line, a `start` line with eight values, then each task line followed by its instruction lines .., then
-- lock lines". No text has less than the first two.
unfoldable pub table_of : List Line → Table
table_of [] = empty_table
table_of (window ∷ []) = empty_table
table_of (window ∷ start ∷ others) =
    let g = grouped others in
    record {
      window = get_or window.numbers 0 0;
      store = start.numbers;
      tasks = min (suc most_tasks) (length g.tasks);
      entries = padded most_tasks no_task g.tasks;
      locks = min (suc most_locks) (length g.locks);
      ceilings = padded most_locks 0 (map (λ (lock : Lock). lock.ceiling) g.locks);
      holdings = padded most_locks 0 (map (λ (lock : Lock). lock.holding) g.locks);
    }

-- ---- from a table to its lines

-- an instruction's name and used fields
unfoldable pub instruction_line : Instruction → Line
instruction_line i =
    line_with (InstructionLine i.operation)
    (take (length (row_of (InstructionLine i.operation)).fields) (i.a ∷ i.b ∷ i.c ∷ []))

-- "each task line followed by its instruction lines"
unfoldable pub task_lines : TaskEntry → List Line
task_lines e =
    line_with TaskLine (e.execution ∷ e.period ∷ e.arrival ∷ []) ∷ map instruction_line (body_of e)

unfoldable pub lock_line : Lock → Line
lock_line lock = line_with LockLine (lock.ceiling ∷ lock.holding ∷ [])

-- "a `window` line, a `start` line with eight values, then each task line .., then lock lines"
unfoldable pub table_lines : Table → List Line
table_lines t =
    line_with WindowLine (t.window ∷ [])
    ∷ line_with StartLine t.store
    ∷ each (tasks_of t) task_lines
    ++ map lock_line (take t.locks (lock_array t))

unfoldable pub text_of : Table → Text
text_of t = joined (table_lines t)
