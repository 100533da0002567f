-- Laws of the job list by value.
-- Assumes nothing.
use Rattle.notation.specs.Laws.TabulateLaws.{values_snoc}
use Rattle.std.specs.Prelude.{◌≡◌, refl, ℕ, ◌+◌, ◌-◌, ◌*◌, ◌^◌, ◌≤◌, ◌<◌, List, [], ◌∷◌, ◌++◌, map, length, get_or, set}
use Rattle.std.proofs.Common.{sym, ap, ◌∙◌, mul-le-mul, le-mul_of_pos_right, add-one, arith, append_assoc, append-nil, length-append}
use Rattle.std.proofs.Math.Path.{fun_ext}
use Rattle.std.proofs.Math.Nat.{zero-div, zero-mod}
use Rattle.std.proofs.Math.Decide.{dec_le}
use Rattle.taskfile.specs.declared.Table.{Table}
use Rattle.taskfile.specs.declared.Task.{Task}
use Rattle.taskfile.specs.declared.TaskEntry.{TaskEntry}
use Rattle.taskfile.specs.Judgement.{numbered, task_numbers}
use Rattle.taskfile.specs.Code.JudgingParts.{Shaped}
use Rattle.notation.specs.Lists.{from, up_to, each, padded}
use Rattle.notation.specs.Laws.ListLaws.{from_snoc, map_snoc, each_append}
use Rattle.notation.specs.Laws.PaddedLaws.{padded_snoc, padded_at}
use Rattle.timing.specs.declared.Job.{Job}
use Rattle.timing.specs.declared.JobList.{JobList}
use Rattle.timing.specs.declared.JobRecord.{JobRecord}
use Rattle.timing.specs.Jobs.{arrival_of, jobs_within, job_of, jobs_of_task, jobs_of}
use Rattle.timing.specs.Relations.{no_job, job_at}
use Rattle.timing.specs.Response.{rounded_up}
use Rattle.timing.proofs.Laws.ResponseLaws.{rounded_up_below}
use Rattle.timing.specs.Code.ResponseParts.{Timeable}
use Rattle.timing.proofs.Laws.TimeableLaws.{task_read}
use Rattle.taskfile.proofs.Laws.JudgingLaws.{tasks_length}
use Rattle.timing.specs.Accepted.{Accepted}
use Rattle.timing.specs.Code.JobParts.{job_list_of}

-- a job stored after the last
pub job_added : (list : JobList) (job : JobRecord) → list.count < 32 → (l : List JobRecord) → list ≡ job_list_of l
    → record { count = list.count + 1; jobs = set list.jobs list.count job } ≡ job_list_of (l ++ (job ∷ []))
unfolding job_list_of
job_added list job room l e =
    let counted : list.count ≡ length l = ap (λ (x : JobList). x.count) e in
    let filled : list.jobs ≡ padded 32 no_job l = ap (λ (x : JobList). x.jobs) e in
    let longer : length (l ++ (job ∷ [])) ≡ length l + 1 = length-append l (job ∷ []) in
    let stored : set list.jobs list.count job ≡ padded 32 no_job (l ++ (job ∷ [])) =
    ap (λ (n : ℕ). set list.jobs n job) counted
    ∙ ap (λ (js : List JobRecord). set js (length l) job) filled
    ∙ padded_snoc 32 no_job l job (omega arith) in
    let total : list.count + 1 ≡ length (l ++ (job ∷ [])) = omega arith in
    λ i. record { count = total i; jobs = stored i }

-- job k of a task with this first arrival, period and response time
abbrev pub job_as : Task → ℕ → ℕ → ℕ → ℕ → JobRecord
job_as i first period response k =
    record { task = i; arrival = first + k * period; latest = first + k * period + response }

-- the jobs of a task go into a list one by one
pub none_added : (f : ℕ → JobRecord) (list : JobList) (l : List JobRecord) → list ≡ job_list_of l
    → list ≡ job_list_of (l ++ map f (up_to 0))
unfolding up_to from
none_added f list l e = e ∙ ap job_list_of (sym (append-nil l))

pub one_added : (f : ℕ → JobRecord) (k : ℕ) (before after : JobList)
    → ((l : List JobRecord) → before ≡ job_list_of l → after ≡ job_list_of (l ++ (f k ∷ [])))
    → (l : List JobRecord) → before ≡ job_list_of (l ++ map f (up_to k)) → after ≡ job_list_of (l ++ map f (up_to (k + 1)))
one_added f k before after added l e =
    added (l ++ map f (up_to k)) e ∙ ap job_list_of
    (append_assoc l (map f (up_to k)) (f k ∷ []) ∙ ap (λ (m : List JobRecord). l ++ m) (sym (values_snoc f k)))

pub all_added : (i : Task) (e : TaskEntry) {first period : ℕ} (response n : ℕ) → first ≡ e.arrival
    → period ≡ e.period → (l : List JobRecord)
    → job_list_of (l ++ map (job_as i first period response) (up_to n)) ≡ job_list_of
    (l ++ map (job_of i e response) (up_to n))
unfolding job_of arrival_of
all_added i e response n p q l = ap (λ (f : ℕ → JobRecord). job_list_of (l ++ map f (up_to n))) (fun_ext (λ k. rw (p, q) refl))

-- a job's arrival stays far below 2^64
pub product_fits : (k period : ℕ) → k < 32 → period < 2 ^ 32 → k * period < 2 ^ 37
product_fits k period h g = let small : k * period ≤ 31 * 2 ^ 32 = mul-le-mul {n₂ = 31} {m₂ = 2 ^ 32} (omega arith) (omega arith) in omega arith

-- a job of the list, by number
pub job_listed : (list : JobList) (l : List JobRecord) (x : ℕ) → list ≡ job_list_of l → x < 32
    → get_or list.jobs x no_job ≡ get_or l x no_job
unfolding job_list_of
job_listed list l x e lt = ap (λ (m : JobList). get_or m.jobs x no_job) e ∙ padded_at 32 no_job l x lt

pub record_listed : (list : JobList) (a : Accepted) (x : Job) → list ≡ job_list_of a.jobs → x.0 < 32
    → get_or list.jobs x.0 no_job ≡ job_at a x
unfolding job_at
record_listed list a x e lt = job_listed list a.jobs x.0 e lt

-- no job of a task arrives in a window that ends before the first arrival
pub none_within_lem : (window : ℕ) (e : TaskEntry) → window ≤ e.arrival → 0 ≡ jobs_within window e
unfolding jobs_within rounded_up
none_within_lem window e late =
    let empty : window - e.arrival ≡ 0 = omega arith in
    sym (rw (empty, zero-div, zero-mod) refl)

-- a rounded-up quotient is at most the number
pub rounded_up_le : (n d : ℕ) → 1 ≤ d → rounded_up n d ≤ n
rounded_up_le n d h =
    elim (dec_le (rounded_up n d) n) [
      | yes le ↦ le
      | no above ↦
          let product : n * d < n = (rounded_up_below n d n h).0 (omega arith) in
          absurd (omega (arith, le-mul_of_pos_right n h))
    ]

-- ---- the jobs task by task

-- the jobs of the tasks below task i
unfoldable pub jobs_below : Table → List ℕ → ℕ → List JobRecord
jobs_below t times i = each (map numbered (up_to i)) (jobs_of_task t times)

pub below_all : {t : Table} → Shaped t → (times : List ℕ) {i : ℕ} → i ≡ t.tasks → jobs_below t times i ≡ jobs_of t times
unfolding jobs_below jobs_of task_numbers
below_all {t} shaped times e = ap (λ (n : ℕ). each (map numbered (up_to n)) (jobs_of_task t times)) (e ∙ sym (tasks_length _ shaped))

below_more : (t : Table) (times : List ℕ) (i : ℕ)
    → jobs_below t times (i + 1) ≡ jobs_below t times i ++ jobs_of_task t times (numbered i)
unfolding jobs_below up_to each
below_more t times i =
    ap (λ (n : ℕ). each (map numbered (from 0 n)) (jobs_of_task t times)) (add-one i)
    ∙ ap (λ (l : List ℕ). each (map numbered l) (jobs_of_task t times)) (from_snoc 0 i)
    ∙ ap (λ (l : List Task). each l (jobs_of_task t times)) (map_snoc numbered (from 0 i) (0 + i))
    ∙ each_append (jobs_of_task t times) (map numbered (from 0 i)) (numbered (0 + i) ∷ [])
    ∙ ap (λ (n : ℕ). each (map numbered (from 0 i)) (jobs_of_task t times) ++ (jobs_of_task t times (numbered n) ++ [])) (omega arith)
    ∙ ap (λ (l : List JobRecord). each (map numbered (from 0 i)) (jobs_of_task t times) ++ l) (append-nil (jobs_of_task t times (numbered i)))

-- the jobs of task i go behind those of the tasks below it
pub task_added : {t : Table} → Timeable t → (times : List ℕ) (i : ℕ) (d : TaskEntry) → i < t.tasks
    → {list after : JobList} {n : ℕ} → n ≡ jobs_within t.window (get_or t.entries i d)
    → ((l : List JobRecord) → list ≡ job_list_of l → after ≡ job_list_of
    (l ++ map (job_of (numbered i) (get_or t.entries i d) (get_or times i 0)) (up_to n)))
    → list ≡ job_list_of (jobs_below t times i) → after ≡ job_list_of (jobs_below t times (i + 1))
unfolding jobs_of_task
task_added {t} timeable times i d lt {n} counted added e =
    added (jobs_below t times i) e
    ∙ ap (λ (m : ℕ). job_list_of (jobs_below t times i ++ map (job_of (numbered i) (get_or t.entries i d) (get_or times i 0)) (up_to m))) counted
    ∙ ap (λ (x : TaskEntry). job_list_of
    (jobs_below t times i ++ map (job_of (numbered i) x (get_or times i 0)) (up_to (jobs_within t.window x))))
    (task_read timeable.shaped i d lt)
    ∙ ap job_list_of (sym (below_more t times i))

pub none_below : (t : Table) (times : List ℕ) → job_list_of [] ≡ job_list_of (jobs_below t times 0)
unfolding jobs_below up_to from each
none_below t times = refl
