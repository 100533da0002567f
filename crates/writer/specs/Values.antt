-- What every lent slice of bytes is like, and every value of the declared types: arrays are full, wide fields have 32
-- bits and bytes 8.
-- Assumes nothing.
use Rattle.std.specs.Prelude.{ℕ, ◌<◌, ◌^◌, ◌≡◌, List, length}
use Rattle.notation.specs.Ordered.{Every}
use Rattle.taskfile.specs.declared.Instruction.{Instruction}
use Rattle.taskfile.specs.declared.Table.{Table}
use Rattle.taskfile.specs.declared.TaskEntry.{TaskEntry}
use Rattle.taskfile.specs.Chains.{most_tasks, most_locks, most_instructions}

abbrev pub Bytes : List ℕ → Type 0
Bytes bytes = Every (λ (b : ℕ). b < 256) bytes

abbrev pub ByteFields : Instruction → Type 0
ByteFields i = (i.a < 256) × (i.b < 256) × (i.c < 256)

pub record FitsEntry (e : TaskEntry) : Type 0 where
  pub execution : e.execution < 2 ^ 32
  pub period : e.period < 2 ^ 32
  pub arrival : e.arrival < 2 ^ 32
  pub body : length e.body ≡ most_instructions
  pub instructions : Every ByteFields e.body

pub record Fits (t : Table) : Type 0 where
  pub window : t.window < 2 ^ 32
  pub store : length t.store ≡ 8
  pub values : Bytes t.store
  pub entries_full : length t.entries ≡ most_tasks
  pub entries : Every FitsEntry t.entries
  pub ceilings : length t.ceilings ≡ most_locks
  pub holdings_full : length t.holdings ≡ most_locks
  pub holdings : Every (λ (h : ℕ). h < 2 ^ 32) t.holdings
