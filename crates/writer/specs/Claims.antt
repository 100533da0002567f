-- What a table in memory claims to hold. Its counts may say anything; where one says more than its array holds, the
-- table claims one part too many, which is refused by 5 whatever stands in it.
-- Assumes nothing.
use Rattle.std.specs.Prelude.{ℕ, List, [], ◌∷◌, ◌++◌, take}
use Rattle.taskfile.specs.declared.Instruction.{Instruction}
use Rattle.taskfile.specs.declared.Table.{Table}
use Rattle.taskfile.specs.declared.TaskEntry.{TaskEntry}
use Rattle.taskfile.specs.Tables.{end_instruction, no_task}
use Rattle.writer.specs.declared.Lock.{Lock}

-- as many as the count says, and never more than one too many
unfoldable pub claimed : {A : Type 0} → ℕ → List A → A → List A
claimed count array blank = take count (array ++ blank ∷ [])

unfoldable pub claimed_tasks : Table → List TaskEntry
claimed_tasks t = claimed t.tasks t.entries no_task

unfoldable pub claimed_body : TaskEntry → List Instruction
claimed_body e = claimed e.length e.body end_instruction

-- the locks one by one: their ceilings and their holding times stand in two arrays
unfoldable pub lock_by_lock : List ℕ → List ℕ → List Lock
lock_by_lock [] holdings = []
lock_by_lock (ceiling ∷ ceilings) [] = []
lock_by_lock (ceiling ∷ ceilings) (holding ∷ holdings) =
    record { ceiling = ceiling; holding = holding } ∷ lock_by_lock ceilings holdings

abbrev pub lock_array : Table → List Lock
lock_array t = lock_by_lock t.ceilings t.holdings

abbrev pub no_lock : Lock
no_lock = record { ceiling = 0; holding = 0 }

unfoldable pub claimed_locks : Table → List Lock
claimed_locks t = claimed t.locks (lock_array t) no_lock
