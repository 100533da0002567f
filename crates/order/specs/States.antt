-- The state that a step goes from, and which job may start there. Document 01, "Orders of steps": "A job is active
-- from its first instruction until its End is done. A job not yet begun may start when each job that comes before it
-- has ended, it may preempt every active job, and its base is above every active job's present priority."
-- Assumes nothing.
use Rattle.std.specs.Prelude.{ℕ, Bool, false, not, ◌&&◌, ◌||◌, List, [], get_or, ltb, eqb}
use Rattle.notation.specs.Lists.{all, any}
use Rattle.taskfile.specs.Tables.{ceilings_of}
use Rattle.timing.specs.declared.Job.{Job}
use Rattle.timing.specs.Accepted.{Accepted}
use Rattle.timing.specs.Relations.{base, before, may_preempt, job_numbers}
use Rattle.machine.specs.Ends.{Flags, no_flags}
use Rattle.machine.specs.Held.{priority}
use Rattle.machine.specs.Instructions.{Store}
use Rattle.order.specs.declared.Frame.{Frame}

-- the store, the jobs that have ended, the jobs with a failed assertion, and the active jobs, the one started last
-- first
pub record State : Type 0 where
  pub store : Store
  pub ended : Flags
  pub failed : Flags
  pub active : List Frame

-- "An order starts from the initial store with no job begun"
unfoldable pub initial : Accepted → State
initial a = record { store = a.table.store; ended = no_flags; failed = no_flags; active = [] }

unfoldable pub has_ended : State → Job → Bool
has_ended s x = get_or s.ended x.0 false

unfoldable pub is_active : State → Job → Bool
is_active s x = any (λ f. eqb f.job.0 x.0) s.active

unfoldable pub all_ended : Accepted → State → Bool
all_ended a s = all (has_ended s) (job_numbers a)

-- an active job's present priority
unfoldable pub present_priority : Accepted → Frame → ℕ
present_priority a f = priority (ceilings_of a.table) (base a f.job) f.local.held

-- "A job not yet begun may start when .."
unfoldable pub may_start : Accepted → State → Job → Bool
may_start a s y =
    not (has_ended s y || is_active s y)
    && all (λ x. not (before a x y) || has_ended s x) (job_numbers a)
    && all (λ f. may_preempt a y f.job) s.active
    && all (λ f. ltb (present_priority a f) (base a y)) s.active
