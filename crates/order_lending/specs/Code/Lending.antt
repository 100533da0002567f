-- What is lent of a table and its jobs: arrays that hold the table, and a state that shows the one that an order
-- starts from.
-- Assumes nothing.
use Rattle.std.specs.Prelude.{◌≡◌, ◌≤◌}
use Rattle.taskfile.specs.declared.Ceilings.{Ceilings}
use Rattle.taskfile.specs.declared.Table.{Table}
use Rattle.timing.specs.declared.JobList.{JobList}
use Rattle.timing.specs.Accepted.{Accepted}
use Rattle.timing.specs.Code.IsAccepted.{IsAccepted}
use Rattle.timing.specs.Code.JobParts.{job_list_of}
use Rattle.order.specs.States.{initial}
use Rattle.order_states.specs.Code.Shows.{Lends, LendsTimes, Shows}
use Rattle.order_states.specs.Code.StateBytes.{snapshot_in, IsState}
use Rattle.order_states.specs.declared.Lent.{Lent}
use Rattle.order_states.specs.declared.LentTimes.{LentTimes}

-- the ceilings of a table's locks
unfoldable pub locks_of : Table → Ceilings
locks_of t = record { count = t.locks; ceilings = t.ceilings }

-- if the parts are an accepted table's, the arrays hold that table, and the state shows where its orders start
pub record LentOf (t : Table) (list : JobList) (l : Lent) : Type 0 where
  pub few : l.locks.count ≤ 8
  pub whole : IsState l.start.bytes
  pub lends : (a : Accepted) → IsAccepted a → t ≡ a.table → list ≡ job_list_of a.jobs
      → Lends a l.program l.waits l.locks
  pub shows : (a : Accepted) → IsAccepted a → t ≡ a.table → list ≡ job_list_of a.jobs
      → Shows a (snapshot_in l.start.bytes) (initial a)

-- and so do those that have the times
pub record TimesOf (t : Table) (list : JobList) (l : LentTimes) : Type 0 where
  pub few : l.locks.count ≤ 8
  pub lends : (a : Accepted) → IsAccepted a → t ≡ a.table → list ≡ job_list_of a.jobs
      → LendsTimes a l.program l.times l.locks
