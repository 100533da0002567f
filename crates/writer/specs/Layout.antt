-- A table laid out as a task file. Document 02, E2: "a writer that lays a table out in walk order, each record once,
-- unused bytes zero". The records are those of document 01, "The task file"; links lead to the index where the next
-- record of the chain comes to stand.
-- Assumes nothing.
use Rattle.std.specs.Prelude.{ℕ, suc, ◌+◌, ◌/◌, ◌%◌, List, [], ◌∷◌, ◌++◌, length, replicate}
use Rattle.taskfile.specs.declared.Instruction.{Instruction}
use Rattle.taskfile.specs.declared.Table.{Table}
use Rattle.taskfile.specs.declared.TaskEntry.{TaskEntry}
use Rattle.taskfile.specs.Records.{File}
use Rattle.writer.specs.declared.Lock.{Lock}
use Rattle.writer.specs.Claims.{claimed_tasks, claimed_body, claimed_locks}
use Rattle.writer.specs.Sites.{locks_at}

-- "Wide fields are unsigned 32-bit, low byte first."
unfoldable pub wide_bytes : ℕ → List ℕ
wide_bytes x = x % 256 ∷ x / 256 % 256 ∷ x / 65536 % 256 ∷ x / 16777216 % 256 ∷ []

-- the link to a chain whose records come to stand from index r on: "zero ends the chain"
unfoldable pub link_to : {A : Type 0} → ℕ → List A → ℕ
link_to r [] = 0
link_to r (x ∷ others) = r

-- "Kind 4, instruction: byte 2 operation, 3-5 fields a, b, c; the rest zero."
unfoldable pub instruction_record : Instruction → ℕ → List ℕ
instruction_record i next = 4 ∷ next ∷ i.operation ∷ i.a ∷ i.b ∷ i.c ∷ replicate 10 0

-- a body's records from index r on
unfoldable pub body_records : ℕ → List Instruction → File
body_records r [] = []
body_records r (i ∷ others) = instruction_record i (link_to (suc r) others) ++ body_records (suc r) others

-- "Kind 2, task: byte 2 first instruction, byte 3 zero, 4-7 execution time C, 8-11 period P, 12-15 first arrival A."
unfoldable pub task_record : TaskEntry → ℕ → ℕ → List ℕ
task_record e next first =
    2 ∷ next ∷ first ∷ 0 ∷ wide_bytes e.execution ++ wide_bytes e.period ++ wide_bytes e.arrival

-- the index after a task at index r and its body
unfoldable pub after_task : ℕ → TaskEntry → ℕ
after_task r e = suc r + length (claimed_body e)

-- the tasks' records from index r on, "each task followed by its body"
unfoldable pub task_records : ℕ → List TaskEntry → File
task_records r [] = []
task_records r (e ∷ others) =
    task_record e (link_to (after_task r e) others) (link_to (suc r) (claimed_body e))
    ++ body_records (suc r) (claimed_body e)
    ++ task_records (after_task r e) others

-- "Kind 3, lock: byte 2 ceiling, 0 to 7; the rest zero."; document 02, E4: "Lock bytes 4-7 become the longest holding
-- time H"
unfoldable pub lock_record : Lock → ℕ → List ℕ
lock_record lock next = 3 ∷ next ∷ lock.ceiling ∷ 0 ∷ wide_bytes lock.holding ++ replicate 8 0

-- the locks' records from index r on
unfoldable pub lock_records : ℕ → List Lock → File
lock_records r [] = []
lock_records r (lock ∷ others) = lock_record lock (link_to (suc r) others) ++ lock_records (suc r) others

-- "Kind 1, header, record 0 only: byte 1 zero, byte 2 first task, byte 3 first lock (zero: no locks), 4-7 window W,
-- 8-15 the initial values of shared variables 0 to 7."
unfoldable pub header_record : Table → ℕ → ℕ → List ℕ
header_record t firstTask firstLock = 1 ∷ 0 ∷ firstTask ∷ firstLock ∷ wide_bytes t.window ++ t.store

-- "header, each task followed by its body, then locks"
unfoldable pub layout : Table → File
layout t =
    header_record t (link_to 1 (claimed_tasks t)) (link_to (locks_at t) (claimed_locks t))
    ++ task_records 1 (claimed_tasks t)
    ++ lock_records (locks_at t) (claimed_locks t)

-- the bytes that any table's layout fits in, counts that are too high among them: 1 + 9 + 9 × 17 + 9 records
abbrev pub layout_room : ℕ
layout_room = 2_752
