-- The lent arrays, as they are filled: instruction by instruction, job by job; and the wait table, made from them.
-- Assumes nothing.
use Rattle.std.specs.Prelude.{◌≡◌, ℕ, zero, suc, ◌+◌, ◌*◌, ◌≤◌, ◌<◌, Bool, not, ◌&&◌, List, length, get_or, eqb}
use Rattle.std.specs.Prelude.{if◌then◌else◌}
use Rattle.taskfile.specs.declared.Table.{Table}
use Rattle.taskfile.specs.Tables.{no_task, end_instruction}
use Rattle.timing.specs.declared.JobList.{JobList}
use Rattle.timing.specs.Relations.{no_job}
use Rattle.order_states.specs.Code.SnapshotSteps.{owner_in, instruction_in, arrival_in, latest_in, before_in, wait_in}
use Rattle.order_states.specs.Code.Sizes.{program_bytes, wait_bytes}

-- the first n instructions, of sixteen for each task, are the table's
pub record BodiesTo (t : Table) (n : ℕ) (program : List ℕ) : Type 0 where
  pub held : (i p : ℕ) → p < 16 → 16 * i + p < n
      → instruction_in program i p ≡ get_or (get_or t.entries i no_task).body p end_instruction
  pub unowned : (x : ℕ) → x < 32 → owner_in program x ≡ 8
  pub room : length program ≡ program_bytes

-- the bodies of its tasks are the table's, and the first n owners are the listed jobs'
pub record OwnersTo (t : Table) (list : JobList) (n : ℕ) (program : List ℕ) : Type 0 where
  pub held : (i p : ℕ) → p < 16 → 16 * i + p < 16 * t.tasks
      → instruction_in program i p ≡ get_or (get_or t.entries i no_task).body p end_instruction
  pub owned : (x : ℕ) → x < n → owner_in program x ≡ (get_or list.jobs x no_job).task.0
  pub unowned : (x : ℕ) → n ≤ x → x < 32 → owner_in program x ≡ 8
  pub room : length program ≡ program_bytes

-- the first n jobs' times are the listed jobs'
pub record TimesTo (list : JobList) (n : ℕ) (times : List ℕ) : Type 0 where
  pub arrivals : (x : ℕ) → x < n → arrival_in times x ≡ (get_or list.jobs x no_job).arrival
  pub finishes : (x : ℕ) → x < n → latest_in times x ≡ (get_or list.jobs x no_job).latest
  pub room : length times ≡ 64

-- is x another job than y, and does it come before y?
unfoldable pub precedes : List ℕ → List ℕ → ℕ → ℕ → Bool
precedes program times x y = not (eqb x y) && before_in program times x y

-- must job y wait for job x as one of task k?
unfoldable pub waited_of : List ℕ → List ℕ → ℕ → ℕ → ℕ → Bool
waited_of program times y k x = eqb (owner_in program x) k && precedes program times x y

-- the first job of task k, of the first n jobs, that job y need not wait for: one past the last that it must wait for
unfoldable pub wait_among : List ℕ → List ℕ → ℕ → ℕ → ℕ → ℕ
wait_among program times y k zero = 0
wait_among program times y k (suc n) =
    if waited_of program times y k n then suc n else wait_among program times y k n

-- job y's row of the wait table is that of the first n jobs
abbrev pub RowTo : List ℕ → List ℕ → ℕ → ℕ → List ℕ → Type 0
RowTo program times y n waits = (k : ℕ) → k < 8 → wait_in waits y k ≡ wait_among program times y k n

-- and nothing else was written
pub record RowFilled (program times : List ℕ) (y n : ℕ) (before after : List ℕ) : Type 0 where
  pub row : RowTo program times y n after
  pub others : (z k : ℕ) → (z ≡ y → ⊥) → k < 8 → wait_in after z k ≡ wait_in before z k
  pub same : length after ≡ length before

-- the rows of the first m jobs are those of the first n, and the others are zeros
pub record WaitsTo (program times : List ℕ) (n m : ℕ) (waits : List ℕ) : Type 0 where
  pub rows : (y : ℕ) → y < m → RowTo program times y n waits
  pub blank : (y k : ℕ) → m ≤ y → y < 32 → k < 8 → wait_in waits y k ≡ 0
  pub room : length waits ≡ wait_bytes
