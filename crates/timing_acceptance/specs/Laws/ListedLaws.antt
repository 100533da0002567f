-- Laws of the job list: the refusals of the file and of the room, and the jobs of an accepted file; and what the entry
-- then answers and stores.
-- Assumes nothing.
use Rattle.std.specs.Prelude.{◌≡◌, ℕ, ◌≤◌, ◌<◌, List, ◌++◌, length, leb, take, drop}
use Rattle.std.proofs.Common.{sym, ap, ◌∙◌, arith, subst, le-leb, leb→le}
use Rattle.std.proofs.lemmas.Bool.{lt-leb}
use Rattle.notation.specs.Checked.{Checked, refused, passed, mapped, require}
use Rattle.notation.specs.Laws.CheckedLaws.{bind_refused, bind_goes, bind_passed, then_passed, passed_same, require_holds, require_fails, require_passed}
use Rattle.taskfile.specs.Records.{File}
use Rattle.timing.specs.declared.AcceptedFile.{AcceptedFile}
use Rattle.timing.specs.declared.JobList.{JobList}
use Rattle.timing.specs.declared.JobRecord.{JobRecord}
use Rattle.timing.specs.Accepted.{accept, most_jobs}
use Rattle.timing.specs.Code.AcceptParts.{accepted_file}
use Rattle.timing.specs.Code.JobParts.{job_list_of}
use Rattle.timing.proofs.Laws.AcceptLaws.{mapped_refused, mapped_passed, accepted_refused, accepted_passed}
use Rattle.timing.proofs.Laws.AcceptedLaws.{file_accepted}
use Rattle.timing.proofs.Laws.JobFacts.{jobs_few}
use Rattle.timing.specs.ReadEntries.{listed, list_answer, list_answer_of, list_after, list_after_of}
use Rattle.timing_acceptance.specs.Laws.FilledLaws.{copied_whole}

module _ (f : File) (list : List JobRecord) where
  -- the file is refused
  pub lists_refused : {n p : ℕ} → refused n p ≡ mapped accepted_file (accept f) → refused n p ≡ mapped job_list_of (listed f list)
  unfolding mapped listed
  lists_refused e = sym (ap (mapped job_list_of) (bind_refused _ (accepted_refused (accept f) e)))

  module _ {x : AcceptedFile} (e : passed x ≡ mapped accepted_file (accept f)) where
    -- the room is below 32
    pub lists_roomless : length list < 32 → refused 20 0 ≡ mapped job_list_of (listed f list)
    unfolding mapped listed
    lists_roomless short =
        let found = accepted_passed (accept f) e in
        sym (ap (mapped job_list_of)
        (bind_goes _ found.1 ∙ require_fails (leb most_jobs (length list)) 20 0 _ (lt-leb _ _ short)))

    -- the file is accepted
    pub lists_accepted : 32 ≤ length list → passed x.list ≡ mapped job_list_of (listed f list)
    unfolding mapped listed
    lists_accepted wide =
        let found = accepted_passed (accept f) e in
        ap passed found.2.list
        ∙ sym (ap (mapped job_list_of)
        (bind_goes _ found.1 ∙ require_holds (leb most_jobs (length list)) 20 0 _ (le-leb _ _ wide)))

  -- ---- what the entry answers and stores

  -- a refusal stores nothing
  module _ {n p : ℕ} (e : refused n p ≡ mapped job_list_of (listed f list)) where
    pub refused_answer : record { number = n; place = p; jobs = 0 } ≡ list_answer f list
    unfolding list_answer list_answer_of
    refused_answer = sym (ap list_answer_of (mapped_refused job_list_of (listed f list) e))

    pub refused_after : list ≡ list_after f list
    unfolding list_after list_after_of
    refused_after = sym (ap (λ (c : Checked ℕ (List JobRecord)). list_after_of c list) (mapped_refused job_list_of (listed f list) e))

  -- the jobs are at most 32, and there is room for them
  jobs_fit : {jobs : List JobRecord} → listed f list ≡ passed jobs → (length jobs ≤ 32) × (32 ≤ length list)
  unfolding listed
  jobs_fit e =
      let room = require (leb most_jobs (length list)) 20 0 in
      let found = bind_passed (accept f) _ e in
      let wide = then_passed room (passed found.0.jobs) found.2 in (
        subst (λ (l : List JobRecord). length l ≤ 32) (passed_same wide.2) (jobs_few (file_accepted f found.1).is_timed),
        leb→le most_jobs (length list) (require_passed (leb most_jobs (length list)) 20 0 wide.1),
      )

  -- they are stored
  module _ {x : JobList} (e : passed x ≡ mapped job_list_of (listed f list)) where
    abbrev found : (jobs : List JobRecord) × (listed f list ≡ passed jobs) × (x ≡ job_list_of jobs)
    found = mapped_passed job_list_of (listed f list) e

    count : x.count ≡ length found.0
    unfolding job_list_of
    count = ap (λ (y : JobList). y.count) found.2

    pub jobs_most : x.count ≤ 32
    jobs_most = omega (arith, count, jobs_fit found.1)

    pub jobs_within : x.count ≤ length list
    jobs_within = omega (arith, count, jobs_fit found.1)

    pub passed_answer : record { number = 0; place = 0; jobs = x.count } ≡ list_answer f list
    unfolding list_answer list_answer_of
    passed_answer = (λ i. record { number = 0; place = 0; jobs = count i }) ∙ sym (ap list_answer_of found.1)

    pub passed_after : take x.count x.jobs ++ drop x.count list ≡ list_after f list
    unfolding list_after list_after_of
    passed_after =
        ap (λ (y : JobList). take y.count y.jobs ++ drop y.count list) found.2
        ∙ copied_whole found.0 list (jobs_fit found.1).0
        ∙ sym (ap (λ (c : Checked ℕ (List JobRecord)). list_after_of c list) found.1)
