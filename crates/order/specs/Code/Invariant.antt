-- What holds of every state that an order of an accepted table can reach. Every step keeps it (`StepLaws`).
-- Assumes nothing.
use Rattle.std.specs.Prelude.{◌≡◌, ◌<◌, Bool, true, false, ◌||◌, length}
use Rattle.notation.specs.Ordered.{Every, Ordered}
use Rattle.taskfile.specs.Tables.{task_of, body_of}
use Rattle.timing.specs.declared.Job.{Job}
use Rattle.timing.specs.Accepted.{Accepted}
use Rattle.timing.specs.Relations.{IsJob, job_at, base, before, may_preempt}
use Rattle.order.specs.declared.Frame.{Frame}
use Rattle.order.specs.States.{State, has_ended, is_active, present_priority}

-- the job f was started over g: it may preempt that one, and its base is above that one's present priority
pub record Over (a : Accepted) (f g : Frame) : Type 0 where
  pub preempts : may_preempt a f.job g.job ≡ true
  pub above : present_priority a g < base a f.job

-- an active job: it is one of the table's, it has not ended, and its next instruction is inside its task's body
pub record IsRunning (a : Accepted) (s : State) (f : Frame) : Type 0 where
  pub job : IsJob a f.job
  pub unended : has_ended s f.job ≡ false
  pub inside : f.local.next < length (body_of (task_of a.table (job_at a f.job).task))

unfoldable pub has_begun : State → Job → Bool
has_begun s x = has_ended s x || is_active s x

-- each active job was started over all that were active then, and whatever comes before a job that has begun has ended
pub record Invariant (a : Accepted) (s : State) : Type 0 where
  pub flags : length s.ended ≡ 32
  pub running : Every (IsRunning a s) s.active
  pub stacked : Ordered (Over a) s.active
  pub preceded : (x y : Job) → IsJob a x → IsJob a y → before a x y ≡ true → has_begun s y ≡ true → has_ended s x ≡ true
