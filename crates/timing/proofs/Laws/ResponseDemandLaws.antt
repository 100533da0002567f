-- The proof of what demand 2 says of response times: an accepted file's answer holds each task's response time, and
-- number 10 names the lowest task that has none up to its period.
-- Assumes nothing.
use Rattle.std.specs.Prelude.{◌≡◌, ◌↔◌, Bool, true, false, List, [], ◌∷◌, leb, get_or}
use Rattle.std.proofs.Math.Path.{refl, ap}
use Rattle.std.proofs.Common.{sym, ◌∙◌, arith}
use Prim.Native.Nat.{ℕ, zero, suc, ◌≤◌, ◌<◌}
use Rattle.std.proofs.Math.Option.{Option, none, some}
use Rattle.std.proofs.Math.ListN.{length, get_or-eq_default}
use Rattle.taskfile.specs.declared.Site.{Site}
use Rattle.taskfile.specs.declared.Site.TheVariants.{AtHeader, AtTask}
use Rattle.taskfile.specs.declared.Table.{Table}
use Rattle.taskfile.specs.declared.Task.{Task}
use Rattle.notation.specs.Checked.{Checked, refused, passed, require, given, placed_by, ◌>>=◌, ◌>>◌}
use Rattle.notation.specs.Laws.CheckedLaws.{bind_refused, bind_goes, bind_passes, placed_refused}
use Rattle.taskfile.specs.File.{Loaded, load, record_at}
use Rattle.taskfile.specs.Judgement.{numbered, task_numbers}
use Rattle.taskfile.specs.Code.JudgingParts.{Shaped}
use Rattle.taskfile.proofs.Laws.NumberLaws.{load_number}
use Rattle.notation.specs.Laws.PaddedLaws.{padded_any}
use Rattle.taskfile.specs.Records.{File}
use Rattle.taskfile.proofs.Laws.TableLaws.{task_numbers_length, task_numbers_at}
use Rattle.timing.specs.Accepted.{Accepted, most_jobs, responses_of, timed, accept}
use Rattle.timing.proofs.Laws.AcceptedLaws.{file_accepted}
use Rattle.timing.proofs.Laws.AcceptLaws.{loaded_timeable, responses_length}
use Rattle.timing.proofs.Laws.JobLaws.{response_of_lem}
use Rattle.timing.specs.Jobs.{job_count, jobs_of}
use Rattle.timing.specs.ReadEntries.{read_answer_of, read_answer}
use Rattle.timing.specs.Response.{response_of}
use Rattle.timing.specs.ResponseDemand.{MeetsPeriod, LowestLate, OverloadAt, response_in, ResponseDemand}
use Rattle.timing.proofs.Laws.ResponseLaws.{response_found}
use Rattle.taskfile.proofs.Laws.JudgingLaws.{tasks_length}

-- ---- one task

-- the search for a response time up to the period finds it if there is one, and nothing if there is none
meets_found : {t : Table} {i : Task} {R : ℕ} → MeetsPeriod t i R → response_of t i ≡ some R
meets_found {t} {i} {R} meets = (response_found t i R).1 (meets.response, meets.within)

found_meets : (t : Table) (i : Task) {R : ℕ} → response_of t i ≡ some R → MeetsPeriod t i R
found_meets t i {R} e =
    let found = (response_found t i R).0 e in
    record { response = found.0; within = found.1 }

late_none : (t : Table) (i : Task) → ((R : ℕ) → ¬ MeetsPeriod t i R) → response_of t i ≡ none
late_none t i late = go (response_of t i) refl
  where
    go : (o : Option ℕ) → response_of t i ≡ o → o ≡ none
    go none e = refl
    go (some R) e = absurd (late R (found_meets t i e))

none_late : (t : Table) (i : Task) → response_of t i ≡ none → (R : ℕ) → ¬ MeetsPeriod t i R
none_late t i e R meets = let found = meets_found meets in let z : ◌≡◌ {A = ℕ} 0 1 = cc in omega arith

-- ---- the lowest of a list of tasks that has none

-- the first of them without a response time, by its place in the list
record FirstLate (t : Table) (is : List Task) (site : Site) : Type 0 where
  place : ℕ
  inside : place < length is
  late : response_of t (get_or is place (numbered 0)) ≡ none
  before : (k : ℕ) → k < place → (R : ℕ) × (response_of t (get_or is k (numbered 0)) ≡ some R)
  named : AtTask (get_or is place (numbered 0)) ≡ site

responses_late : (t : Table) (is : List Task) {n : ℕ} {s : Site} → responses_of t is ≡ refused n s → FirstLate t is s
unfolding responses_of given ◌>>=◌
responses_late t [] e = absurd (let z : ◌≡◌ {A = ℕ} 0 1 = cc in omega arith)
responses_late t (i ∷ is) {n} {s} e = go (response_of t i) refl e (λ later. responses_late t is later)
  where
    go : (o : Option ℕ) → response_of t i ≡ o
        → ◌>>=◌ (given o 10 (AtTask i)) (λ R. ◌>>=◌ (responses_of t is) (λ Rs. passed (R ∷ Rs))) ≡ refused n s
        → (responses_of t is ≡ refused n s → FirstLate t is s) → FirstLate t (i ∷ is) s
    go none o e later =
        record { place = 0; inside = omega arith; late = o; before = λ k lt. absurd (omega arith); named = cc }
    go (some R) o e later =
        let rest = later (bind_passes (responses_of t is) (λ Rs. R ∷ Rs) e) in
        record {
          place = suc rest.place;
          inside = omega (arith, rest.inside);
          late = rest.late;
          before = earlier rest;
          named = rest.named;
        }
      where
        earlier : (rest : FirstLate t is s) → (k : ℕ) → k < suc rest.place
            → (Q : ℕ) × (response_of t (get_or (i ∷ is) k (numbered 0)) ≡ some Q)
        earlier rest zero lt = (R, o)
        earlier rest (suc k) lt = rest.before k (omega arith)

-- and it decides
late_responses : (t : Table) (is : List Task) (place : ℕ) → place < length is
    → response_of t (get_or is place (numbered 0)) ≡ none
    → ((k : ℕ) → k < place → (R : ℕ) × (response_of t (get_or is k (numbered 0)) ≡ some R))
    → responses_of t is ≡ refused 10 (AtTask (get_or is place (numbered 0)))
unfolding responses_of given ◌>>=◌
late_responses t [] place inside late before = absurd (omega arith)
late_responses t (i ∷ is) zero inside late before = rw late
late_responses t (i ∷ is) (suc place) inside late before =
    rw ((before 0 (omega arith)).1, late_responses t is place (omega arith) late (λ k lt. before (suc k) (omega arith)))

-- ---- the tasks of a table

module _ {t : Table} (shaped : Shaped t) where
  -- a task's number stands at its place
  number_at : (i : Task) → i.0 < t.tasks → get_or (task_numbers t) i.0 (numbered 0) ≡ i
  number_at i lt = task_numbers_at t i (numbered 0) (omega (arith, tasks_length _ shaped))

  -- the response times are refused at the lowest task without one
  refused_lowest : {n : ℕ} {s : Site} → responses_of t (task_numbers t) ≡ refused n s
      → (i : Task) × LowestLate t i × (AtTask i ≡ s)
  refused_lowest e =
      let first = responses_late t (task_numbers t) e in
      let i = numbered first.place in
      let inside : first.place < t.tasks = omega (arith, first.inside, task_numbers_length t, tasks_length _ shaped) in
      let late : response_of t i ≡ none = rw (number_at i inside) at first.late in (
        i,
        record {
          listed = inside;
          late = none_late t i late;
          lowest = λ k lt.
              let found = first.before k.0 lt in
              (found.0, found_meets t k (rw (number_at k (omega arith)) at found.1));
        },
        ap (λ (j : Task). AtTask j) (sym (number_at i inside)) ∙ first.named,
      )

  lowest_refused : (i : Task) → LowestLate t i → responses_of t (task_numbers t) ≡ refused 10 (AtTask i)
  lowest_refused i low =
      let inside : i.0 < length (task_numbers t) =
      omega (arith, low.listed, task_numbers_length t, tasks_length _ shaped) in
      late_responses t (task_numbers t) i.0 inside (rw (number_at i low.listed) (late_none t i low.late))
      (λ k lt.
      let meets = low.lowest (numbered k) lt in
      (meets.0, rw (number_at (numbered k) (omega (arith, low.listed))) (meets_found meets.1)))
      ∙ ap (λ (j : Task). refused 10 (AtTask j)) (number_at i low.listed)

-- ---- number 10

-- of the checks of times only that of the response times refuses by 10
timed_refused : (t : Table) {s : Site} → timed t ≡ refused 10 s → responses_of t (task_numbers t) ≡ refused 10 s
unfolding timed require ◌>>◌ ◌>>=◌
timed_refused t {s} e =
    go (λ Rs. record { table = t; responses = Rs; jobs = jobs_of t Rs }) (responses_of t (task_numbers t))
    (leb (job_count t) most_jobs) e
  where
    go : (whole : List ℕ → Accepted) (c : Checked Site (List ℕ)) (b : Bool)
        → ◌>>=◌ c (λ Rs. ◌>>◌ (require b 11 AtHeader) (passed (whole Rs))) ≡ refused 10 s → c ≡ refused 10 s
    go whole (refused n p) b e = cc
    go whole (passed Rs) true e = absurd (let z : ◌≡◌ {A = ℕ} 0 1 = cc in omega arith)
    go whole (passed Rs) false e = absurd (let z : ◌≡◌ {A = ℕ} 11 10 = cc in omega arith)

-- what follows once a file is loaded
abbrev timed_file : Loaded → Checked ℕ Accepted
timed_file loaded = placed_by (record_at loaded.chains) (timed loaded.table)

module _ (f : File) where
  -- a file refused by 10 passes 1 to 9
  accept_loads : {place : ℕ} → accept f ≡ refused 10 place
      → (loaded : Loaded) × (load f ≡ passed loaded) × (timed_file loaded ≡ refused 10 place)
  unfolding accept ◌>>=◌
  accept_loads {place} e = go (load f) refl e
    where
      go : (c : Checked ℕ Loaded) → load f ≡ c → ◌>>=◌ c timed_file ≡ refused 10 place
          → (loaded : Loaded) × (load f ≡ passed loaded) × (timed_file loaded ≡ refused 10 place)
      go (refused n p) c e = let same : n ≡ 10 = cc in absurd (omega (arith, load_number f c))
      go (passed loaded) c e = (loaded, c, e)

  refused_overload : {place : ℕ} → accept f ≡ refused 10 place → OverloadAt f place
  refused_overload e =
      let read = accept_loads e in
      let at = placed_refused (record_at read.0.chains) (timed read.0.table) read.2 in
      let low = refused_lowest (loaded_timeable f read.1).shaped (timed_refused read.0.table at.1) in
      record {
        loaded = read.0;
        loads = read.1;
        task = low.0;
        late = low.1;
        named = ap (record_at read.0.chains) low.2 ∙ at.2;
      }

  overload_refused : {place : ℕ} → OverloadAt f place → accept f ≡ refused 10 place
  unfolding accept timed placed_by
  overload_refused over =
      let t = over.loaded.table in
      bind_goes _ over.loads
      ∙ ap (placed_by (record_at over.loaded.chains))
      (bind_refused _ (lowest_refused (loaded_timeable f over.loads).shaped over.task over.late))
      ∙ ap (refused 10) over.named

-- the answer is 10 at a place exactly where the file is refused so
answer_ten : (c : Checked ℕ Accepted) (place : ℕ)
    → (((read_answer_of c).number ≡ 10) × ((read_answer_of c).place ≡ place)) ↔ (c ≡ refused 10 place)
unfolding read_answer_of
answer_ten (refused n p) place = (λ e. cc (e.0, e.1), λ e. (cc, cc))
answer_ten (passed a) place =
    (λ e. absurd (omega (arith, e.0)), λ e. absurd (let z : ◌≡◌ {A = ℕ} 0 1 = cc in omega arith))

-- ---- an accepted file

module _ (f : File) {a : Accepted} (e : accept f ≡ passed a) where
  -- the answer holds the response times as they were found
  answer_response : (i : Task) → response_in (read_answer f) i ≡ get_or a.responses i.0 0
  unfolding read_answer read_answer_of
  answer_response i =
      let ok = file_accepted f e in
      let shaped = ok.is_made.shaped in
      let long = responses_length a.table (task_numbers a.table) ok.is_timed.found in
      let few : length a.responses ≤ 8 =
      omega (arith, task_numbers_length a.table, tasks_length _ shaped, shaped.tasks_within) in
      rw e (padded_any 8 0 a.responses i.0 few)

  response_meets : (i : Task) → i.0 < a.table.tasks → MeetsPeriod a.table i (response_in (read_answer f) i)
  response_meets i lt =
      let ok = file_accepted f e in
      let found = response_of_lem ok.is_timed i (omega (arith, tasks_length _ ok.is_made.shaped)) in
      rw (answer_response i) (record { response = found.0; within = found.1 })

  response_past : (i : Task) → a.table.tasks ≤ i.0 → response_in (read_answer f) i ≡ 0
  response_past i le =
      let ok = file_accepted f e in
      let long = responses_length a.table (task_numbers a.table) ok.is_timed.found in
      answer_response i
      ∙ get_or-eq_default a.responses 0
      (omega (arith, task_numbers_length a.table, tasks_length _ ok.is_made.shaped))

pub response_demand : (f : File) → ResponseDemand f
unfolding read_answer
response_demand f =
    record {
      responses = λ a e. response_meets f e;
      past = λ a e. response_past f e;
      overload = λ place. (
        λ ten. refused_overload f ((answer_ten (accept f) place).0 ten),
        λ over. (answer_ten (accept f) place).1 (overload_refused f over),
      );
    }
