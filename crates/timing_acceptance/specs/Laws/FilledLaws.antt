-- Laws of the lent list when a list of jobs went to its start: its length, its steps, that it is what a copy leaves, and
-- that it is the jobs before what was there.
-- Assumes nothing.
use Rattle.std.specs.Prelude.{◌≡◌, refl, ℕ, zero, suc, ◌≤◌, ◌<◌, List, ◌++◌, length, get_or, set, take, drop, replicate}
use Rattle.std.proofs.Common.{sym, ap, ◌∙◌, le_refl, zero-add, arith}
use Rattle.std.proofs.Common.{length-set, length-append, length-take-le, length-drop, get_or-take, take-take, take_all}
use Rattle.std.proofs.Math.Seq.{paste, paste-zero, paste-suc, take-length}
use Rattle.std.proofs.lemmas.List.{take-append-le}
use Rattle.notation.specs.Lists.{padded}
use Rattle.timing.specs.declared.JobList.{JobList}
use Rattle.timing.specs.declared.JobRecord.{JobRecord}
use Rattle.timing.specs.Code.JobParts.{job_list_of}
use Rattle.timing.specs.Relations.{no_job}
use Rattle.timing_acceptance.specs.Code.Filled.{job_record_of, list_filled}

-- ---- record by record

pub filled_length : (from : JobList) (n : ℕ) (list : List JobRecord) → length (list_filled from n list) ≡ length list
unfolding list_filled
filled_length from zero list = refl
filled_length from (suc n) list = length-set (list_filled from n list) n (job_record_of from n) ∙ filled_length from n list

-- nothing is stored
pub list_filled_none : (from : JobList) (list : List JobRecord) → list ≡ list_filled from 0 list
unfolding list_filled
list_filled_none from list = refl

-- one record more is stored
pub filled_next : (from : JobList) (n : ℕ) (list : List JobRecord) {r : JobRecord} → r ≡ job_record_of from n
    → set (list_filled from n list) n r ≡ list_filled from (suc n) list
unfolding list_filled
filled_next from n list e = ap (λ (r : JobRecord). set (list_filled from n list) n r) e

-- the records are a list's
abbrev pub HoldsRecords : JobList → List JobRecord → Type 0
HoldsRecords from jobs = (i : ℕ) → i < length jobs → job_record_of from i ≡ get_or jobs i no_job

-- the first n of that list stand before what was there
filled_part : (from : JobList) (jobs list : List JobRecord) → HoldsRecords from jobs → length jobs ≤ length list
    → (n : ℕ) → n ≤ length jobs → list_filled from n list ≡ paste list 0 jobs n
unfolding list_filled
filled_part from jobs list held room zero le = paste-zero list 0 jobs
filled_part from jobs list held room (suc n) le =
    let small : n < length jobs = omega (arith, le) in
    let before = filled_part from jobs list held room n (omega (arith, le)) in
    (λ i. set (before i) n (held n small i))
    ∙ ap (λ (k : ℕ). set (paste list 0 jobs n) k (get_or jobs n no_job)) (sym (zero-add n))
    ∙ paste-suc list 0 jobs n no_job (omega (arith, small, room)) small

-- the whole of it
pub filled_whole : (from : JobList) (jobs list : List JobRecord) → HoldsRecords from jobs → length jobs ≤ length list
    → list_filled from (length jobs) list ≡ jobs ++ drop (length jobs) list
filled_whole from jobs list held room =
    filled_part from jobs list held room (length jobs) (omega arith)
    ∙ (λ i. take-length jobs i ++ drop (zero-add (length jobs) i) list)

-- ---- by a copy

-- a lent list with a list of jobs at its start
abbrev Filled : JobList → List JobRecord → List JobRecord
Filled jobs list = take jobs.count jobs.jobs ++ drop jobs.count list

pub copied_length : (jobs : JobList) (list : List JobRecord) → jobs.count ≤ length jobs.jobs → jobs.count ≤ length list
    → length (Filled jobs list) ≡ length list
copied_length jobs list held room =
    omega (
      arith,
      length-append (take jobs.count jobs.jobs) (drop jobs.count list),
      length-take-le jobs.count jobs.jobs held,
      length-drop jobs.count list,
    )

-- the array of a list of jobs begins with them
jobs_held : (jobs : List JobRecord) → length jobs ≤ 32 → take (length jobs) (padded 32 no_job jobs) ≡ jobs
unfolding padded
jobs_held jobs few =
    take-take (length jobs) 32 (jobs ++ replicate 32 no_job) few
    ∙ take-append-le (length jobs) jobs (replicate 32 no_job) (le_refl _)
    ∙ take_all (length jobs) jobs (le_refl _)

pub copied_whole : (jobs list : List JobRecord) → length jobs ≤ 32
    → Filled (job_list_of jobs) list ≡ jobs ++ drop (length jobs) list
unfolding job_list_of
copied_whole jobs list few = ap (λ (js : List JobRecord). js ++ drop (length jobs) list) (jobs_held jobs few)

-- a copy leaves what the records leave that are stored one after the other
pub copied_filled : (from : JobList) (list : List JobRecord) → from.count ≤ length from.jobs → from.count ≤ length list
    → Filled from list ≡ list_filled from from.count list
copied_filled from list held room =
    let jobs = take from.count from.jobs in
    let long : length jobs ≡ from.count = length-take-le from.count from.jobs held in
    let records : HoldsRecords from jobs = λ i lt. sym (get_or-take from.count from.jobs i no_job (omega (arith, lt, long))) in
    ap (λ (n : ℕ). jobs ++ drop n list) (sym long)
    ∙ sym (filled_whole from jobs list records (omega (arith, long, room)))
    ∙ ap (λ (n : ℕ). list_filled from n list) long
