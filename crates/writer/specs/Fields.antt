-- The judgement of a table that came from no file, numbers 4, 5 and 7 to 11. Document 02, E2: "Errors: 4, 5, 7, 8, 9,
-- 10 and 11 for a bad table, in the reader's order, at the index the record would have had". The reader's order is
-- document 01's: "header, each task followed by its body, then locks", at each record 5 and then 4, and an empty
-- chain's 5 after its holder's 4; then 7 to 11, each over the whole table.
-- Assumes nothing.
use Rattle.std.specs.Prelude.{ℕ, suc, not, ◌&&◌, List, [], ◌∷◌, ltb, eqb}
use Rattle.notation.specs.Checked.{Checked, passed, require, placed_by, ◌>>◌}
use Rattle.taskfile.specs.declared.Instruction.{Instruction}
use Rattle.taskfile.specs.declared.Site.{Site}
use Rattle.taskfile.specs.declared.Site.TheVariants.{AtHeader, AtTask, AtInstruction, AtLock}
use Rattle.taskfile.specs.declared.Table.{Table}
use Rattle.taskfile.specs.declared.TaskEntry.{TaskEntry}
use Rattle.taskfile.specs.Chains.{most_tasks, most_locks, most_instructions}
use Rattle.taskfile.specs.Judgement.{numbered, judged}
use Rattle.taskfile.specs.Records.{window_in_range, times_in_range, ceiling_in_range, tidy_instruction, instruction_in_range}
use Rattle.timing.specs.Accepted.{Accepted, timed}
use Rattle.writer.specs.declared.Lock.{Lock}
use Rattle.writer.specs.Claims.{claimed_tasks, claimed_body, claimed_locks}
use Rattle.writer.specs.Sites.{index_of}
use Rattle.writer.specs.Covered.{covered}

-- the instructions of task i from position p on: an instruction too many, then its operation and fields
unfoldable pub body_fields : ℕ → ℕ → List Instruction → Checked Site (Unit {0})
body_fields i p [] = passed tt
body_fields i p (here ∷ others) = do
  require (ltb p most_instructions) 5 (AtInstruction (numbered i) p)
  require (tidy_instruction here && instruction_in_range here) 4 (AtInstruction (numbered i) p)
  body_fields i (suc p) others

-- the tasks from task i on: a task too many, its times, an empty body, its instructions
unfoldable pub task_fields : ℕ → List TaskEntry → Checked Site (Unit {0})
task_fields i [] = passed tt
task_fields i (e ∷ others) = do
  require (ltb i most_tasks) 5 (AtTask (numbered i))
  require (times_in_range e.execution e.period) 4 (AtTask (numbered i))
  require (not (eqb e.length 0)) 5 (AtTask (numbered i))
  body_fields i 0 (claimed_body e)
  task_fields (suc i) others

-- the locks from lock l on: a lock too many, its ceiling; any holding time will do
unfoldable pub lock_fields : ℕ → List Lock → Checked Site (Unit {0})
lock_fields l [] = passed tt
lock_fields l (lock ∷ others) = do
  require (ltb l most_locks) 5 (AtLock l)
  require (ceiling_in_range lock.ceiling) 4 (AtLock l)
  lock_fields (suc l) others

-- 4 and 5: the window, no tasks, each task followed by its body, the locks
unfoldable pub fields : Table → Checked Site (Unit {0})
fields t = do
  require (window_in_range t.window) 4 AtHeader
  require (not (eqb t.tasks 0)) 5 AtHeader
  task_fields 0 (claimed_tasks t)
  lock_fields 0 (claimed_locks t)

-- 4 and 5, then 7 to 9, then 10 and 11
unfoldable pub judged_whole : Table → Checked Site Accepted
judged_whole t = do
  fields t
  judged (covered t)
  timed (covered t)

-- what a table comes to that is to be written: the table with its response times and jobs, or its number and place
unfoldable pub accept_table : Table → Checked ℕ Accepted
accept_table t = placed_by (index_of t) (judged_whole t)
