-- How long tasks may wait for a lower task's lock, computed from the definition.
-- Assumes nothing.
use Rattle.std.specs.Prelude.{◌≡◌, refl, ℕ, [], ◌∷◌, map}
use Rattle.notation.specs.Lists
use Rattle.taskfile.specs.declared.Instruction.{Instruction}
use Rattle.taskfile.specs.declared.Table.{Table}
use Rattle.taskfile.specs.Judgement
use Rattle.taskfile.proofs.Laws.SmallTables.{instruction, task, locked_table}
use Rattle.taskfile.specs.Tables
use Rattle.taskfile.specs.Tables.{end_instruction}
use Rattle.timing.specs.Blocking.{tasks_below, is_acquire_of, acquires, blocks, blocking}
use Rattle.timing.specs.Response.{need}

abbrev acquire : ℕ → Instruction
acquire lock = instruction 9 lock 0 0

abbrev release : ℕ → Instruction
release lock = instruction 10 lock 0 0

-- Task 0 acquires locks 0 and 2, the latter where no job comes, and releases lock 1, which task 1 acquires; nobody
-- acquires lock 3. The ceiling of lock 0 is 1, that of the others 2.
unfoldable pub waiting : Table
waiting =
    locked_table 1 0
    (task 1 200 0 (acquire 0 ∷ release 1 ∷ end_instruction ∷ acquire 2 ∷ end_instruction ∷ [])
    ∷ task 1 200 0 (acquire 1 ∷ end_instruction ∷ []) ∷ task 1 200 0 (end_instruction ∷ []) ∷ [])
    (1 ∷ 2 ∷ 2 ∷ 2 ∷ [])
    (5 ∷ 100 ∷ 3 ∷ 50 ∷ [])

-- A task of the longest execution time that may wait for a lock of the longest holding time.
unfoldable pub longest : Table
longest =
    locked_table 1 0
    (task 1 4_294_967_295 0 (acquire 0 ∷ end_instruction ∷ []) ∷ task 4_294_967_295 4_294_967_295 0 (end_instruction ∷ [])
    ∷ [])
    (1 ∷ [])
    (4_294_967_295 ∷ [])

-- one name for what is computed
unfoldable blocking_opened : Unit {0}
unfolding waiting longest blocking blocks acquires is_acquire_of tasks_below need Judgement.task_numbers Judgement.is_acquire
    Tables.tasks_of Tables.task_of Tables.body_of Tables.ceilings_of Tables.holdings_of Tables.holding_of Tables.lock_numbers
    Tables.no_task Lists.padded Lists.any Lists.only Lists.largest Lists.up_to Lists.from
blocking_opened = tt

-- task 0 has no task below, task 1 may wait for locks 0 and 2, task 2 for locks 1 and 2
pub waits : map (blocking waiting) (Judgement.task_numbers waiting) ≡ 0 ∷ 5 ∷ 100 ∷ []
unfolding blocking_opened
waits = refl

-- the sum of the two longest times is more than 32 bits hold
pub longest_need : need longest (record { 0 = 1 }) ≡ 8_589_934_590
unfolding blocking_opened
longest_need = refl
