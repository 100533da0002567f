-- How long a task may wait for a lower task's lock. Document 02, E4: "For task i, B_i is the largest H among locks with
-- ceiling at least i that an Acquire in the body of some task below i names, 0 if none".
-- Assumes nothing.
use Rattle.std.specs.Prelude.{ℕ, Bool, ◌&&◌, List, map, get_or, take, leb, eqb}
use Rattle.notation.specs.Lists.{any, only, largest}
use Rattle.taskfile.specs.declared.Instruction.{Instruction}
use Rattle.taskfile.specs.declared.Table.{Table}
use Rattle.taskfile.specs.declared.Task.{Task}
use Rattle.taskfile.specs.declared.TaskEntry.{TaskEntry}
use Rattle.taskfile.specs.Judgement.{is_acquire}
use Rattle.taskfile.specs.Tables.{tasks_of, body_of, ceilings_of, holding_of, lock_numbers}

-- the tasks below i: those with a lower number
unfoldable pub tasks_below : Table → Task → List TaskEntry
tasks_below t i = take i.0 (tasks_of t)

-- Does an Acquire in the body of the task name the lock? It counts wherever it stands in the body, reached or not.
unfoldable pub is_acquire_of : ℕ → Instruction → Bool
is_acquire_of lock here = is_acquire here && eqb here.a lock

unfoldable pub acquires : ℕ → TaskEntry → Bool
acquires lock e = any (is_acquire_of lock) (body_of e)

-- "locks with ceiling at least i that an Acquire in the body of some task below i names"
unfoldable pub blocks : Table → Task → ℕ → Bool
blocks t i lock = leb i.0 (get_or (ceilings_of t) lock 0) && any (acquires lock) (tasks_below t i)

-- "the largest H among" these locks, "0 if none"
unfoldable pub blocking : Table → Task → ℕ
blocking t i = largest (map (holding_of t) (only (blocks t i) (lock_numbers t)))
