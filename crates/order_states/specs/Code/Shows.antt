-- Which table the lent arrays hold, and which state a snapshot shows.
-- Assumes nothing.
use Rattle.std.specs.Prelude.{◌≡◌, ℕ, suc, ◌≤◌, ◌<◌, List, reverse, length, get_or, take, ltb}
use Rattle.taskfile.specs.declared.Ceilings.{Ceilings}
use Rattle.taskfile.specs.declared.Task.{Task}
use Rattle.taskfile.specs.Judgement.{instruction_of}
use Rattle.taskfile.specs.Tables.{tasks_of, task_of, body_of, ceilings_of}
use Rattle.timing.specs.declared.Job.{Job}
use Rattle.timing.specs.Accepted.{Accepted}
use Rattle.timing.specs.Relations.{IsJob, job_at, base, before}
use Rattle.order_states.specs.Code.Snapshots.{Snapshot}
use Rattle.order_states.specs.Code.SnapshotSteps.{owner_in, instruction_in, arrival_in, latest_in, wait_in, stack_of}
use Rattle.order.specs.States.{State, has_ended}

-- ---- what is lent, and what is shown

-- the lent arrays hold an accepted table: each job's task, each instruction, and the ceilings
pub record LendsTable (a : Accepted) (program : List ℕ) (locks : Ceilings) : Type 0 where
  pub owner : (x : Job) → IsJob a x → owner_in program x.0 ≡ base a x
  pub no_owner : (x : ℕ) → length a.jobs ≤ x → x < 32 → owner_in program x ≡ 8
  pub body : (i : Task) (p : ℕ) → i.0 < length (tasks_of a.table) → p < length (body_of (task_of a.table i))
      → instruction_in program i.0 p ≡ instruction_of a.table i p
  pub ceilings : take locks.count locks.ceilings ≡ ceilings_of a.table

-- and each job's arrival and latest finish
pub record LendsTimes (a : Accepted) (program times : List ℕ) (locks : Ceilings) : Type 0 where
  pub table : LendsTable a program locks
  pub arrival : (x : Job) → IsJob a x → arrival_in times x.0 ≡ (job_at a x).arrival
  pub latest : (x : Job) → IsJob a x → latest_in times x.0 ≡ (job_at a x).latest

-- or, for the steps, which jobs come before which: of each task those below the byte, which is 0 or one past a job of
-- that task
pub record Lends (a : Accepted) (program waits : List ℕ) (locks : Ceilings) : Type 0 where
  pub table : LendsTable a program locks
  pub preceding : (x y : Job) → IsJob a x → IsJob a y → before a x y ≡ ltb x.0 (wait_in waits y.0 (base a x))
  pub waited : (y : Job) (k n : ℕ) → IsJob a y → k < 8 → wait_in waits y.0 k ≡ suc n
      → IsJob a (record { 0 = n }) × (base a (record { 0 = n }) ≡ k)

-- the snapshot shows the state: a job has ended if its number is below its task's first job not yet ended, and the
-- jobs of lower tasks have lower numbers than that
pub record Shows (a : Accepted) (p : Snapshot) (s : State) : Type 0 where
  pub store : p.store ≡ s.store
  pub failed : p.failed ≡ s.failed
  pub active : s.active ≡ reverse (stack_of p)
  pub depth : p.depth ≤ 8
  pub full : length p.stack ≡ 8
  pub places : length p.unended ≡ 8
  pub ended : (x : Job) → IsJob a x → has_ended s x ≡ ltb x.0 (get_or p.unended (base a x) 0)
  pub lowest : (k : ℕ) (x : Job) → k < 8 → IsJob a x → base a x < k → x.0 < get_or p.unended k 0
