-- Laws of an accepted table's jobs: "Jobs are numbered by task, then by arrival", and a job's latest finish is after
-- its arrival.
-- Assumes nothing.
use Rattle.std.specs.Prelude.{◌≡◌, refl, ◌⊎◌, ℕ, zero, suc, ◌+◌, ◌≤◌, ◌<◌, List, [], ◌∷◌, length, get_or, leb}
use Rattle.std.proofs.Common.{subst, inl, inr, mul-lt-mul_of_pos_right, arith, leb→le}
use Rattle.std.proofs.Math.Option.{some}
use Rattle.taskfile.specs.declared.Site.TheVariants.{AtHeader, AtTask}
use Rattle.taskfile.specs.declared.Table.{Table}
use Rattle.taskfile.specs.declared.Task.{Task}
use Rattle.notation.specs.Checked.{passed, require, given, ◌>>=◌, ◌>>◌}
use Rattle.notation.specs.Laws.CheckedLaws.{passed_same, bind_passed, then_passed, require_passed, given_passed}
use Rattle.taskfile.specs.Judgement.{task_numbers}
use Rattle.notation.specs.Lists.{from, up_to}
use Rattle.notation.specs.Laws.PairLaws.{every_of, every_imp, every_map, ordered_map, ordered_imp, every_each, ordered_each, from_rises}
use Rattle.notation.specs.Ordered.{Every, Ordered}
use Rattle.taskfile.proofs.Laws.TableLaws.{task_numbers_length, task_numbers_at, every_task, tasks_rise}
use Rattle.taskfile.specs.Tables.{tasks_of, task_of}
use Rattle.timing.specs.declared.JobRecord.{JobRecord}
use Rattle.timing.specs.Accepted.{Accepted, most_jobs, timed, responses_of}
use Rattle.timing.specs.Jobs.{arrival_of, jobs_within, job_of, jobs_of_task, jobs_of, job_count}
use Rattle.timing.specs.Response.{IsResponse, response_of}
use Rattle.timing.proofs.Laws.ResponseLaws.{response_found}
use Rattle.timing.specs.Code.IsAccepted.{Timed}

-- ---- what acceptance says of the response times

-- the response times of a list of tasks are that of the first, and those of the others
responses_cons : (t : Table) (i : Task) (is : List Task) {Rs : List ℕ} → responses_of t (i ∷ is) ≡ passed Rs
    → (R : ℕ) × (Qs : List ℕ) × (response_of t i ≡ some R) × (responses_of t is ≡ passed Qs) × (R ∷ Qs ≡ Rs)
unfolding responses_of
responses_cons t i is {Rs} e =
    let first = bind_passed (given (response_of t i) 10 (AtTask i)) (λ R. ◌>>=◌ (responses_of t is) (λ Qs. passed (R ∷ Qs))) e in
    let others = bind_passed (responses_of t is) (λ Qs. passed (first.0 ∷ Qs)) first.2 in
    (first.0, others.0, given_passed (response_of t i) 10 (AtTask i) first.1, others.1, passed_same others.2)

-- each listed task's response time stands at the task's place in the list
pub responses_found : (t : Table) (is : List Task) {Rs : List ℕ} → responses_of t is ≡ passed Rs
    → (k : ℕ) (d : Task) → k < length is → response_of t (get_or is k d) ≡ some (get_or Rs k 0)
responses_found t [] e k d lt = absurd (omega arith)
responses_found t (i ∷ is) {Rs} e zero d lt =
    let parts = responses_cons t i is e in
    rw (← parts.4) parts.2
responses_found t (i ∷ is) {Rs} e (suc k) d lt =
    let parts = responses_cons t i is e in
    rw (← parts.4) (responses_found t is parts.3 k d (omega arith))

pub timed_passed : (t : Table) {a : Accepted} → timed t ≡ passed a → (a.table ≡ t) × Timed a
unfolding timed
timed_passed t {a} e =
    let whole : List ℕ → Accepted = λ Rs. record { table = t; responses = Rs; jobs = jobs_of t Rs } in
    let fewEnough = require (leb (job_count t) most_jobs) 11 AtHeader in
    let responses = bind_passed (responses_of t (task_numbers t)) (λ Rs. ◌>>◌ fewEnough (passed (whole Rs))) e in
    let count = then_passed fewEnough (passed (whole responses.0)) responses.2 in
    let parts : Timed (whole responses.0) =
    record {
      found = responses.1;
      listed = refl;
      few = leb→le (job_count t) most_jobs (require_passed (leb (job_count t) most_jobs) 11 AtHeader count.1);
    } in
    subst (λ (x : Accepted). (x.table ≡ t) × Timed x) (passed_same count.2) (refl, parts)

-- ---- the jobs

-- "Jobs are numbered by task, then by arrival."
abbrev pub Earlier : JobRecord → JobRecord → Type 0
Earlier x y = (x.task.0 < y.task.0) ⊎ ((x.task.0 ≡ y.task.0) × (x.arrival < y.arrival))

-- the jobs of a task are of that task
of_task_lem : (t : Table) (Rs : List ℕ) (i : Task) → Every (λ x. x.task.0 ≡ i.0) (jobs_of_task t Rs i)
unfolding jobs_of_task job_of
of_task_lem t Rs i =
    every_map (λ x. x.task.0 ≡ i.0) (job_of i (task_of t i) (get_or Rs i.0 0)) (up_to (jobs_within t.window (task_of t i)))
    (every_of (λ (k : ℕ). i.0 ≡ i.0) (λ k. refl) (up_to (jobs_within t.window (task_of t i))))

-- where the response time is positive, a job's latest finish is after its arrival
of_task_lasts : (t : Table) (Rs : List ℕ) (i : Task) → 1 ≤ get_or Rs i.0 0
    → Every (λ x. x.arrival < x.latest) (jobs_of_task t Rs i)
unfolding jobs_of_task job_of
of_task_lasts t Rs i positive =
    every_map (λ x. x.arrival < x.latest) (job_of i (task_of t i) (get_or Rs i.0 0)) (up_to (jobs_within t.window (task_of t i)))
    (every_of (λ k. arrival_of (task_of t i) k < arrival_of (task_of t i) k + get_or Rs i.0 0) (λ k. omega arith)
    (up_to (jobs_within t.window (task_of t i))))

-- where the period is positive, the jobs of a task are in the order of their arrivals
of_task_rises : (t : Table) (Rs : List ℕ) (i : Task) → 1 ≤ (task_of t i).period → Ordered Earlier (jobs_of_task t Rs i)
unfolding jobs_of_task job_of arrival_of up_to
of_task_rises t Rs i positive =
    let count = jobs_within t.window (task_of t i) in
    let job_as : ℕ → JobRecord = job_of i (task_of t i) (get_or Rs i.0 0) in
    ordered_map Earlier job_as (from 0 count)
    (ordered_imp ◌<◌ (λ j k. Earlier (job_as j) (job_as k))
    (λ j k lt. inr (refl, omega (arith, mul-lt-mul_of_pos_right lt positive))) (from 0 count) (from_rises 0 count))

-- an accepted table's task has a response time, which is its entry in the list and at most its period
pub response_of_lem : {a : Accepted} → Timed a → (i : Task) → i.0 < length (tasks_of a.table)
    → IsResponse a.table i (get_or a.responses i.0 0)
    × (get_or a.responses i.0 0 ≤ (task_of a.table i).period)
response_of_lem {a} timed i lt =
    let t = a.table in
    (response_found t i (get_or a.responses i.0 0)).0
    (rw (task_numbers_at t i i) at
    (responses_found t (task_numbers t) timed.found i.0 i (rw (task_numbers_length t) lt)))

-- the jobs of a task with a lower number are earlier
tasks_apart : (t : Table) (Rs : List ℕ) (i j : Task) → i.0 < j.0
    → Every (λ x. Every (Earlier x) (jobs_of_task t Rs j)) (jobs_of_task t Rs i)
tasks_apart t Rs i j lt =
    every_imp (λ x. x.task.0 ≡ i.0) (λ x. Every (Earlier x) (jobs_of_task t Rs j))
    (λ x e. every_imp (λ y. y.task.0 ≡ j.0) (Earlier x) (λ y d. inl (omega arith)) (jobs_of_task t Rs j) (of_task_lem t Rs j))
    (jobs_of_task t Rs i) (of_task_lem t Rs i)

-- "A job's latest finish is arrival + response time", and so after its arrival
pub jobs_last : {a : Accepted} → Timed a → Every (λ x. x.arrival < x.latest) a.jobs
unfolding jobs_of
jobs_last {a} timed =
    rw timed.listed
    (every_each (λ x. x.arrival < x.latest) (jobs_of_task a.table a.responses) (task_numbers a.table)
    (every_task a.table (λ i. Every (λ x. x.arrival < x.latest) (jobs_of_task a.table a.responses i))
    (λ i lt. of_task_lasts a.table a.responses i (response_of_lem timed i lt).0.positive)))

-- "Jobs are numbered by task, then by arrival."
pub jobs_numbered : {a : Accepted} → Timed a → Ordered Earlier a.jobs
unfolding jobs_of
jobs_numbered {a} timed =
    rw timed.listed
    (ordered_each Earlier (jobs_of_task a.table a.responses) (task_numbers a.table)
    (every_task a.table (λ i. Ordered Earlier (jobs_of_task a.table a.responses i))
    (λ i lt.
    let response = response_of_lem timed i lt in
    of_task_rises a.table a.responses i (omega (arith, response.0.positive, response.1))))
    (tasks_rise a.table (λ i j. Every (λ x. Every (Earlier x) (jobs_of_task a.table a.responses j)) (jobs_of_task a.table a.responses i))
    (tasks_apart a.table a.responses)))
