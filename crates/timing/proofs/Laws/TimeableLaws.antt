-- Laws of a table whose times can be worked out: a task read from the array is the table's task, its times are bounded,
-- and a sum over the tasks above one is worked out task by task.
-- Assumes nothing.
use Rattle.std.specs.Prelude.{◌≡◌, ℕ, ◌+◌, ◌*◌, ◌≤◌, ◌<◌, [], ◌∷◌, map, get_or, drop}
use Rattle.std.proofs.Common.{sym, ◌∙◌, le_trans, add-one, arith, drop_of_length-le, drop-cons, get_or-take}
use Rattle.taskfile.specs.declared.Table.{Table}
use Rattle.taskfile.specs.declared.Task.{Task}
use Rattle.taskfile.specs.declared.TaskEntry.{TaskEntry}
use Rattle.taskfile.specs.Code.JudgingParts.{Shaped}
use Rattle.notation.specs.Lists.{sum}
use Rattle.taskfile.specs.Tables.{tasks_of, task_of, no_task}
use Rattle.taskfile.specs.Judgement.{numbered}
use Rattle.timing.specs.Jobs.{jobs_within}
use Rattle.timing.specs.Response.{rounded_up, tasks_above, interference, need, demand}
use Rattle.timing.specs.Code.ResponseParts.{Timeable}
use Rattle.notation.specs.Laws.ListLaws.{get_or_any}
use Rattle.taskfile.proofs.Laws.JudgingLaws.{tasks_length}

-- a task read from the array is the table's task, whatever the default
pub task_read : {t : Table} → Shaped t → (k : ℕ) (d : TaskEntry) → k < t.tasks
    → get_or t.entries k d ≡ task_of t (numbered k)
unfolding task_of tasks_of
task_read {t} s k d lt =
    get_or_any t.entries k d no_task (omega arith) ∙ sym (get_or-take t.tasks t.entries k no_task lt)

-- the times of task i as a function reads them from arrays
pub record TimesRead (t : Table) (i : Task) (C P : ℕ) : Type 0 where
  pub execution : C ≡ (task_of t i).execution
  pub period : P ≡ (task_of t i).period
  pub positive : 1 ≤ C
  pub within : C ≤ P

-- a task read from the array has a positive period
pub period_read : {t : Table} → Timeable t → (k : ℕ) (d : TaskEntry) → k < t.tasks → 1 ≤ (get_or t.entries k d).period
period_read timeable k d lt =
    rw (task_read timeable.shaped k d lt) (omega (arith, timeable.positive (numbered k) lt, timeable.within (numbered k) lt))

-- the tasks from task k on: task k, and the later ones
pub tasks_next : {t : Table} → Shaped t → (k : ℕ) → k < t.tasks
    → drop k (tasks_of t) ≡ task_of t (numbered k) ∷ drop (k + 1) (tasks_of t)
unfolding task_of
tasks_next {t} s k lt = rw (add-one, drop-cons (tasks_of t) k no_task (omega (arith, tasks_length _ s)))

-- past the last task there are none
pub times_end : {t : Table} → Shaped t → (k : ℕ) → t.tasks ≤ k → drop k (tasks_of t) ≡ []
times_end {t} s k le = drop_of_length-le (tasks_of t) {i = k} (omega (arith, tasks_length _ s))

-- ---- sums over the tasks from task k on

-- the first task's term, and the sum over the others
pub sum_step : {t : Table} → Shaped t → (g : TaskEntry → ℕ) (k : ℕ) → k < t.tasks
    → sum (map g (drop k (tasks_of t))) ≡ g (task_of t (numbered k)) + sum (map g (drop (k + 1) (tasks_of t)))
unfolding sum
sum_step s g k lt = rw (tasks_next s k lt)

-- past the last task it is 0
pub sum_end : {t : Table} → Shaped t → (g : TaskEntry → ℕ) (k : ℕ) → t.tasks ≤ k → sum (map g (drop k (tasks_of t))) ≡ 0
unfolding sum
sum_end s g k le = rw (times_end s k le)

-- interference: the first task's term, and what the later tasks add
pub interference_next : {t : Table} → Timeable t → (k r : ℕ) {C P : ℕ} → k < t.tasks → TimesRead t (numbered k) C P
    → interference (drop k (tasks_of t)) r ≡ rounded_up r P * C + interference (drop (k + 1) (tasks_of t)) r
unfolding interference
interference_next timeable k r lt read =
    sum_step timeable.shaped (λ e. rounded_up r e.period * e.execution) k lt ∙ rw (read.execution, read.period)

pub interference_end : {t : Table} → Timeable t → (k r : ℕ) → t.tasks ≤ k → interference (drop k (tasks_of t)) r ≡ 0
unfolding interference
interference_end timeable k r le = sum_end timeable.shaped (λ e. rounded_up r e.period * e.execution) k le

-- the jobs of the tasks from task k on
pub jobs_step : {t : Table} → Timeable t → (k : ℕ) (d : TaskEntry) {n : ℕ} → k < t.tasks
    → n ≡ jobs_within t.window (get_or t.entries k d)
    → sum (map (jobs_within t.window) (drop k (tasks_of t))) ≡ n + sum
    (map (jobs_within t.window) (drop (k + 1) (tasks_of t)))
jobs_step {t} timeable k d lt e =
    sum_step timeable.shaped (jobs_within t.window) k lt ∙ rw (e, task_read timeable.shaped k d lt)

-- ---- what task i needs

-- it is no less than the execution time
pub need_least : (t : Table) (i : Task) → (task_of t i).execution ≤ need t i
unfolding need
need_least t i = omega arith

-- so it is positive
pub need_positive : {t : Table} → Timeable t → (i : Task) → i.0 < t.tasks → 1 ≤ need t i
need_positive {t} timeable i lt = le_trans (timeable.positive i lt) (need_least t i)

-- demand of task i, with what it needs given
pub demand_read : (t : Table) (i : Task) (r : ℕ) {own x : ℕ} → own ≡ need t i → x ≡ interference (tasks_above t i) r
    → own + x ≡ demand t i r
unfolding demand
demand_read t i r same e = rw (e, same)
