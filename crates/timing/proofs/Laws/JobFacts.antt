-- What the listing of an accepted table's jobs says of one job: its task is one of the table's, its latest finish is
-- its arrival and its task's response time, and there are at most 32.
-- Assumes nothing.
use Rattle.timing.proofs.Laws.RelationLaws as relations
use Rattle.std.specs.Prelude.{◌≡◌, refl, ℕ, ◌+◌, ◌≤◌, ◌<◌, true, List, map, length, get_or}
use Rattle.std.proofs.Common.{ap, ◌∙◌, inl, inr, arith}
use Rattle.std.proofs.Math.Path.{fun_ext}
use Rattle.taskfile.specs.declared.Table.{Table}
use Rattle.taskfile.specs.declared.Task.{Task}
use Rattle.taskfile.specs.Judgement.{numbered, task_numbers}
use Rattle.notation.specs.Laws.ListLaws.{up_to_length}
use Rattle.notation.specs.Lists.{up_to, sum}
use Rattle.notation.specs.Laws.PairLaws.{every_at, every_of, every_map, every_each}
use Rattle.notation.specs.Ordered.{Every}
use Rattle.notation.specs.Laws.QuantifierLaws.{map_length}
use Rattle.taskfile.proofs.Laws.TableLaws.{every_task}
use Rattle.taskfile.specs.Tables.{tasks_of, task_of, no_task}
use Rattle.timing.specs.declared.Job.{Job}
use Rattle.timing.specs.declared.JobRecord.{JobRecord}
use Rattle.timing.specs.Accepted.{Accepted}
use Rattle.timing.specs.Code.IsAccepted.{Timed}
use Rattle.timing.specs.Jobs.{jobs_within, job_of, jobs_of_task, jobs_of, job_count}
use Rattle.timing.proofs.Laws.RelationLaws.{before_holds}
use Rattle.timing.specs.Relations.{IsJob, no_job, job_at, base, before}
use Rattle.notation.specs.Laws.ElementLaws.{by_index, each_length, map_map}

-- what the list says of one job's record
abbrev Listed : Accepted → JobRecord → Type 0
Listed a j = (j.task.0 < length (tasks_of a.table)) × (j.latest ≡ j.arrival + get_or a.responses j.task.0 0)

listed_task : (a : Accepted) (i : Task) → i.0 < length (tasks_of a.table)
    → Every (Listed a) (jobs_of_task a.table a.responses i)
unfolding jobs_of_task job_of
listed_task a i lt =
    every_map (Listed a) (job_of i (task_of a.table i) (get_or a.responses i.0 0)) (up_to (jobs_within a.table.window (task_of a.table i)))
    (every_of _ (λ k. (lt, refl)) (up_to (jobs_within a.table.window (task_of a.table i))))

listed_all : {a : Accepted} → Timed a → Every (Listed a) a.jobs
unfolding jobs_of
listed_all {a} timed =
    rw timed.listed
    (every_each (Listed a) (jobs_of_task a.table a.responses) (task_numbers a.table)
    (every_task a.table (λ i. Every (Listed a) (jobs_of_task a.table a.responses i)) (listed_task a)))

-- a job's task is one of the table's
pub job_task : {a : Accepted} → Timed a → (x : Job) → IsJob a x → base a x < length (tasks_of a.table)
unfolding base job_at
job_task {a} timed x isJob = (every_at (Listed a) a.jobs x.0 no_job (listed_all timed) isJob).0

-- a job's latest finish is its arrival and its task's response time
pub job_lasts : {a : Accepted} → Timed a → (x : Job) → IsJob a x
    → (job_at a x).latest ≡ (job_at a x).arrival + get_or a.responses (base a x) 0
unfolding base job_at
job_lasts {a} timed x isJob = (every_at (Listed a) a.jobs x.0 no_job (listed_all timed) isJob).1

jobs_of_task_lem : (t : Table) (Rs : List ℕ) (i : Task) → length (jobs_of_task t Rs i) ≡ jobs_within t.window (task_of t i)
unfolding jobs_of_task
jobs_of_task_lem t Rs i = map_length _ (up_to (jobs_within t.window (task_of t i))) ∙ up_to_length (jobs_within t.window (task_of t i))

-- the list has as many jobs as are counted
pub jobs_counted : (t : Table) (Rs : List ℕ) → length (jobs_of t Rs) ≡ job_count t
unfolding jobs_of job_count task_numbers task_of
jobs_counted t Rs =
    each_length (jobs_of_task t Rs) (task_numbers t)
    ∙ ap (λ (f : Task → ℕ). sum (map f (task_numbers t))) (fun_ext (jobs_of_task_lem t Rs))
    ∙ ap sum (map_map _ numbered (up_to (length (tasks_of t))) ∙ by_index (jobs_within t.window) no_task (tasks_of t))

-- "at most 32 jobs"
pub jobs_few : {a : Accepted} → Timed a → length a.jobs ≤ 32
jobs_few {a} timed = omega (arith, timed.few, ap (λ (l : List JobRecord). length l) timed.listed, jobs_counted a.table a.responses)

-- an earlier job of the same task comes before a later one
pub same_task : {a : Accepted} → Timed a → (x y : Job) → x.0 < y.0 → IsJob a y → base a x ≡ base a y
    → before a x y ≡ true
same_task {a} timed x y lt isJob same =
    before_holds a x y (λ e. omega arith)
    (elim (relations.jobs_by_number timed x y lt isJob) [ inl below ↦ absurd (omega arith) | inr later ↦ inr (omega arith) ])
