-- Laws of acceptance: what `accept` yields, by the check that decides, and what the functions answer for it.
-- Assumes nothing.
use Rattle.std.specs.Prelude.{◌≡◌, refl, ℕ, suc, ◌≤◌, ◌<◌, length, get_or, replicate, leb}
use Rattle.std.proofs.Math.Path.{sym, ap, fun_ext}
use Rattle.std.proofs.Common.{subst, ◌∙◌, inl, inr, arith, le-leb}
use mathlib.Core.List.{List, [], ◌∷◌, map, Memᴰ}
use Rattle.std.proofs.lemmas.Bool.{lt-leb}
use Rattle.taskfile.specs.declared.Site.{Site}
use Rattle.taskfile.specs.declared.Site.TheVariants.{AtHeader, AtTask}
use Rattle.taskfile.specs.declared.Table.{Table}
use Rattle.taskfile.specs.declared.Task.{Task}
use Rattle.taskfile.specs.Chains.{Chains}
use Rattle.taskfile.proofs.Laws.ChainLaws.{chains_linked, InTable, in_table_sited, site_record_lem, table_shaped}
use Rattle.notation.specs.Checked.{Checked, refused, passed, given, placed_by, mapped, ◌>>=◌}
use Rattle.notation.specs.Laws.CheckedLaws.{refused_passed, passed_same, placed_passed, bind_passed, require_holds}
use Rattle.notation.specs.Laws.CheckedLaws.{require_fails, bind_refused, bind_goes, bind_refuses, given_refused}
use Rattle.taskfile.specs.File.{Loaded, load, record_at}
use Rattle.taskfile.specs.Judgement.{numbered, task_numbers}
use Rattle.taskfile.proofs.Laws.LoadLaws.{load_parts, task_in}
use Rattle.notation.specs.Lists.{each, up_to, padded}
use Rattle.notation.specs.Laws.PaddedLaws.{padded_at, padded_any}
use Rattle.taskfile.specs.Code.Reading.{linked_chains}
use Rattle.taskfile.specs.Code.ReadingParts.{site_record}
use Rattle.taskfile.specs.Records.{File}
use Rattle.taskfile.proofs.Laws.TableLaws.{task_numbers_length, task_numbers_at}
use Rattle.taskfile.specs.Tables.{tasks_of, task_of, table_at}
use Rattle.taskfile.proofs.Laws.TimesLaws.{times_in_range_lem}
use Rattle.timing.specs.declared.JobRecord.{JobRecord}
use Rattle.timing.specs.Accepted.{Accepted, most_jobs, responses_of, timed, accept}
use Rattle.timing.specs.declared.AcceptedFile.{AcceptedFile}
use Rattle.timing.specs.Code.AcceptParts.{AcceptedParts, accepted_file}
use Rattle.timing.proofs.Laws.AcceptedLaws.{file_accepted}
use Rattle.timing.proofs.Laws.JobFacts.{jobs_counted}
use Rattle.timing.proofs.Laws.JobLaws.{responses_found, timed_passed}
use Rattle.timing.specs.Code.JobParts.{job_list_of, WithinPeriods}
use Rattle.timing.specs.Jobs.{job_count, job_of, jobs_within, jobs_of, jobs_of_task}
use Rattle.timing.specs.ReadEntries.{read_answer_of, read_answer}
use Rattle.timing.specs.Response.{response_of}
use Rattle.timing.proofs.Laws.ResponseLaws.{response_found}
use Rattle.timing.specs.Code.ResponseParts.{Timeable}
use Rattle.taskfile.proofs.Laws.JudgingLaws.{tasks_length}

-- ---- a file that was loaded

-- its table can be timed
pub loaded_timeable : (f : File) {loaded : Loaded} → load f ≡ passed loaded → Timeable loaded.table
loaded_timeable f {loaded} e =
    let parts = load_parts f e in
    let linked : loaded.chains ≡ linked_chains f = chains_linked f parts.0 in
    let shaped = rw (← linked) at (table_shaped f) in
    subst Timeable (sym parts.1)
    (record {
      shaped = shaped;
      positive = λ i lt. (times_in_range_lem f parts.0 i (omega (arith, tasks_length _ shaped))).0;
      within = λ i lt. (times_in_range_lem f parts.0 i (omega (arith, tasks_length _ shaped))).1;
    })

-- ---- response times that were looked for

-- the refusal stands at one of the tasks
pub responses_refused : (t : Table) (is : List Task) {n : ℕ} {s : Site} → responses_of t is ≡ refused n s
    → (i : Task) × Memᴰ i is × (s ≡ AtTask i)
unfolding responses_of
responses_refused t [] e = absurd (let z : ◌≡◌ {A = ℕ} 0 1 = cc in omega arith)
responses_refused t (i ∷ is) {n} {s} e =
    elim (bind_refuses (given (response_of t i) 10 (AtTask i)) _ e) [
      | inl here ↦ (i, Memᴰ.head refl, given_refused (response_of t i) 10 (AtTask i) here)
      | inr goes ↦
          elim (bind_refuses (responses_of t is) (λ Rs. passed (goes.0 ∷ Rs)) goes.1) [
            | inl later ↦ let task = responses_refused t is later in (task.0, Memᴰ.tail task.1, task.2)
            | inr never ↦ absurd (let z : ◌≡◌ {A = ℕ} 0 1 = cc never.1 in omega arith)
          ]
    ]

-- response times that were found are at most the periods
pub found_within : {t : Table} → Timeable t → {Rs : List ℕ} → responses_of t (task_numbers t) ≡ passed Rs
    → {times : List ℕ} → times ≡ padded 8 0 Rs → WithinPeriods t times
found_within {t} timeable {Rs} e held i lt =
    let shaped = timeable.shaped in
    let known : i < length (tasks_of t) = omega (arith, tasks_length _ shaped) in
    let listed : i < length (task_numbers t) = omega (arith, task_numbers_length t) in
    let found = responses_found t (task_numbers t) e i (numbered i) listed in
    let response = (response_found t (numbered i) (get_or Rs i 0)).0 (rw (task_numbers_at t (numbered i) (numbered i) known) at found) in
    rw (held, padded_at 8 0 Rs i (omega (arith, shaped.tasks_within))) response.1

-- there is one for each task
pub responses_length : (t : Table) (is : List Task) {Rs : List ℕ} → responses_of t is ≡ passed Rs → length Rs ≡ length is
unfolding responses_of
responses_length t [] e = ap length (sym (passed_same e))
responses_length t (i ∷ is) e =
    let first = bind_passed (given (response_of t i) 10 (AtTask i)) (λ R. ◌>>=◌ (responses_of t is) (λ Qs. passed (R ∷ Qs))) e in
    let others = bind_passed (responses_of t is) (λ Qs. passed (first.0 ∷ Qs)) first.2 in
    ap length (sym (passed_same others.2)) ∙ ap suc (responses_length t is others.1)

-- the jobs are the same whether the response times are filled up with zeros or not
same_jobs : {t : Table} → Timeable t → {Rs : List ℕ} → responses_of t (task_numbers t) ≡ passed Rs → {times : List ℕ}
    → times ≡ padded 8 0 Rs → jobs_of t times ≡ jobs_of t Rs
unfolding jobs_of jobs_of_task
same_jobs {t} timeable {Rs} e {times} held =
    let few : length Rs ≤ 8 =
    omega (arith, responses_length t (task_numbers t) e, task_numbers_length t, tasks_length _ timeable.shaped, timeable.shaped.tasks_within) in
    ap (λ (g : Task → List JobRecord). each (task_numbers t) g)
    (fun_ext (λ (i : Task). ap (λ (R : ℕ). map (job_of i (task_of t i) R) (up_to (jobs_within t.window (task_of t i))))
    (ap (λ (l : List ℕ). get_or l i.0 0) held ∙ padded_any 8 0 Rs i.0 few)))

-- ---- what `accept` yields

module _ (f : File) where
  pub accept_refused : {n p : ℕ} → load f ≡ refused n p → accept f ≡ refused n p
  unfolding accept
  accept_refused e = bind_refused _ e

  module _ {loaded : Loaded} (e : load f ≡ passed loaded) where
    accept_goes : accept f ≡ placed_by (record_at loaded.chains) (timed loaded.table)
    unfolding accept
    accept_goes = bind_goes _ e

    -- the record at a task of the table
    task_record_lem : {n : ℕ} {s : Site} → responses_of loaded.table (task_numbers loaded.table) ≡ refused n s
        → record_at loaded.chains s ≡ site_record f s
    task_record_lem {s} r =
        let parts = load_parts f e in
        let linked : loaded.chains ≡ linked_chains f = chains_linked f parts.0 in
        let table : loaded.table ≡ table_at f (linked_chains f) = parts.1 ∙ ap (table_at f) linked in
        let task = responses_refused loaded.table (task_numbers loaded.table) r in
        let inside : InTable loaded.table s = subst (InTable loaded.table) (sym task.2) (task_in loaded.table task.0 task.1) in
        ap (λ (c : Chains). record_at c s) linked
        ∙ site_record_lem f s (in_table_sited f s (subst (λ (t : Table). InTable t s) table inside))

    pub accept_overload : {n : ℕ} {s : Site} → responses_of loaded.table (task_numbers loaded.table) ≡ refused n s
        → accept f ≡ refused n (site_record f s)
    unfolding timed placed_by
    accept_overload {n} {s} r =
        accept_goes ∙ ap (placed_by (record_at loaded.chains)) (bind_refused _ r) ∙ ap (refused n) (task_record_lem r)

    module _ {Rs : List ℕ} (r : responses_of loaded.table (task_numbers loaded.table) ≡ passed Rs) where
      pub accept_many : 32 < job_count loaded.table → accept f ≡ refused 11 0
      unfolding timed placed_by record_at
      accept_many many =
          accept_goes
          ∙ ap (placed_by (record_at loaded.chains))
          (bind_goes _ r ∙ require_fails (leb (job_count loaded.table) most_jobs) 11 AtHeader _ (lt-leb _ _ many))

      pub accept_passed : job_count loaded.table ≤ 32
          → accept f ≡ passed (record { table = loaded.table; responses = Rs; jobs = jobs_of loaded.table Rs })
      unfolding timed placed_by
      accept_passed few =
          accept_goes
          ∙ ap (placed_by (record_at loaded.chains))
          (bind_goes _ r ∙ require_holds (leb (job_count loaded.table) most_jobs) 11 AtHeader _ (le-leb _ _ few))

-- ---- what the functions answer

-- what a check whose value is led to another says of the check
pub mapped_refused : {P A B : Type 0} (g : A → B) (c : Checked P A) {n : ℕ} {p : P} → refused n p ≡ mapped g c
    → c ≡ refused n p
unfolding mapped
mapped_refused g (refused number place) e = cc
mapped_refused g (passed x) e = refused_passed e

pub mapped_passed : {P A B : Type 0} (g : A → B) (c : Checked P A) {y : B} → passed y ≡ mapped g c
    → (x : A) × (c ≡ passed x) × (y ≡ g x)
unfolding mapped
mapped_passed g (refused number place) e = refused_passed (sym e)
mapped_passed g (passed x) e = (x, refl, passed_same e)

-- a file's table, or its refusal
abbrev table_of : File → Checked ℕ Table
table_of f = mapped (λ loaded. loaded.table) (load f)

-- the response times of a table in an array, or its refusal
abbrev times_of : Table → Checked Site (List ℕ)
times_of t = mapped (padded 8 0) (responses_of t (task_numbers t))

-- what the table of a file says, led to another value by g
module _ (f : File) {B : Type 0} (g : Accepted → B) where
  pub answers_refused : {n p : ℕ} → refused n p ≡ table_of f → refused n p ≡ mapped g (accept f)
  unfolding mapped
  answers_refused h = rw (accept_refused f (mapped_refused _ (load f) h))

  module _ {t : Table} (loading : passed t ≡ table_of f) where
    abbrev read : (loaded : Loaded) × (load f ≡ passed loaded) × (t ≡ loaded.table)
    read = mapped_passed (λ (loaded : Loaded). loaded.table) (load f) loading

    -- the table of a file that passed can be timed
    pub answers_timeable : Timeable t
    answers_timeable = subst Timeable (sym read.2) (loaded_timeable f read.1)

    pub answers_overload : {n : ℕ} {s : Site} {r : ℕ} → refused n s ≡ times_of t → r ≡ site_record f s
        → refused n r ≡ mapped g (accept f)
    unfolding mapped
    answers_overload {n} {s} h place =
        let late = mapped_refused (padded 8 0) (responses_of t (task_numbers t)) h in
        let late' : responses_of read.0.table (task_numbers read.0.table) ≡ refused n s =
        subst (λ (x : Table). responses_of x (task_numbers x) ≡ refused n s) read.2 late in
        rw (accept_overload f read.1 late', place)

    module _ {times : List ℕ} (timing : passed times ≡ times_of t) where
      abbrev found : (Rs : List ℕ) × (responses_of t (task_numbers t) ≡ passed Rs) × (times ≡ padded 8 0 Rs)
      found = mapped_passed (padded 8 0) (responses_of t (task_numbers t)) timing

      -- those of the table as it was loaded
      found_loaded : responses_of read.0.table (task_numbers read.0.table) ≡ passed found.0
      found_loaded = subst (λ (x : Table). responses_of x (task_numbers x) ≡ passed found.0) read.2 found.1

      -- response times that were found are at most the periods
      pub answers_within : WithinPeriods t times
      answers_within = found_within answers_timeable found.1 found.2

      pub answers_many : {total : ℕ} → total ≡ job_count t → 32 < total → refused 11 0 ≡ mapped g (accept f)
      unfolding mapped
      answers_many counted many =
          let above : 32 < job_count read.0.table = subst (λ (n : ℕ). 32 < n) (counted ∙ ap job_count read.2) many in
          rw (accept_many f read.1 found_loaded above)

      -- what is accepted
      pub answers_passed : {total : ℕ} → total ≡ job_count t → total ≤ 32
          → (a : Accepted) × (accept f ≡ passed a) × (t ≡ a.table) × (times ≡ padded 8 0 a.responses) × (total ≡ length a.jobs)
      answers_passed counted few =
          let below : job_count read.0.table ≤ 32 = subst (λ (n : ℕ). n ≤ 32) (counted ∙ ap job_count read.2) few in
          let count = counted ∙ ap job_count read.2 ∙ sym (jobs_counted read.0.table found.0) in
          (_, accept_passed f read.1 found_loaded below, read.2, found.2, count)

-- ---- a file that was accepted

-- its table can be timed
pub accepted_timeable : (f : File) {a : Accepted} → accept f ≡ passed a → Timeable a.table
unfolding accept
accepted_timeable f e =
    let parts = bind_passed (load f) (λ loaded. placed_by (record_at loaded.chains) (timed loaded.table)) e in
    let table = timed_passed parts.0.table (placed_passed (record_at parts.0.chains) (timed parts.0.table) parts.2) in
    subst Timeable (sym table.0) (loaded_timeable f parts.1)

-- its jobs are those that the response times in an array make
pub accepted_jobs : (f : File) {a : Accepted} → accept f ≡ passed a
    → job_list_of (jobs_of a.table (padded 8 0 a.responses)) ≡ job_list_of a.jobs
accepted_jobs f e =
    let held = (file_accepted f e).is_timed in
    ap job_list_of (same_jobs (accepted_timeable f e) held.found refl ∙ sym held.listed)

-- a table whose response times were found and whose jobs are at most 32, with both, is what every entry has of the file
pub answers_accepted : (f : File) {t : Table} → passed t ≡ table_of f → {times : List ℕ} → passed times ≡ times_of t
    → (x : AcceptedFile) {total : ℕ} → total ≡ job_count t → total ≤ 32 → x.table ≡ t → x.responses ≡ times
    → x.list ≡ job_list_of (jobs_of t times) → passed x ≡ mapped accepted_file (accept f)
unfolding mapped accepted_file
answers_accepted f loading timing x counted few table responses list =
    let found = answers_passed f accepted_file loading timing counted few in
    let jobs = list ∙ (λ i. job_list_of (jobs_of (found.2 i) (found.3 i))) ∙ accepted_jobs f found.1 in
    (λ i. passed (record { table = (table ∙ found.2) i; responses = (responses ∙ found.3) i; list = jobs i }))
    ∙ sym (ap (mapped accepted_file) found.1)

-- what a caller of `accept_file` has of a refusal and of an accepted file
pub accepted_refused : (c : Checked ℕ Accepted) {n p : ℕ} → refused n p ≡ mapped accepted_file c → c ≡ refused n p
accepted_refused c e = mapped_refused accepted_file c e

pub accepted_passed : {x : AcceptedFile} (c : Checked ℕ Accepted) → passed x ≡ mapped accepted_file c
    → (a : Accepted) × (c ≡ passed a) × AcceptedParts x a
unfolding accepted_file
accepted_passed c e =
    let found = mapped_passed accepted_file c e in (
      found.0,
      found.1,
      record {
        table = ap (λ (y : AcceptedFile). y.table) found.2;
        responses = ap (λ (y : AcceptedFile). y.responses) found.2;
        list = ap (λ (y : AcceptedFile). y.list) found.2;
      },
    )

-- ---- the reader's entry

module _ (f : File) where
  pub reads_refused : {n p : ℕ} → accept f ≡ refused n p
      → record { number = n; place = p; responses = replicate 8 0; jobs = 0 } ≡ read_answer f
  unfolding read_answer read_answer_of padded
  reads_refused h = sym (ap read_answer_of h)

  pub reads_accepted : {a : Accepted} → accept f ≡ passed a → {times : List ℕ} {total : ℕ}
      → times ≡ padded 8 0 a.responses → total ≡ length a.jobs
      → record { number = 0; place = 0; responses = times; jobs = total } ≡ read_answer f
  unfolding read_answer read_answer_of
  reads_accepted h held count =
      (λ i. record { number = 0; place = 0; responses = held i; jobs = count i }) ∙ sym (ap read_answer_of h)
