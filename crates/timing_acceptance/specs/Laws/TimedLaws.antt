-- Laws of a file's table with its response times and the number of its jobs: what it is of an accepted file, and that
-- the job list is worked out from it.
-- Assumes nothing.
use Rattle.std.specs.Prelude.{◌≡◌, refl, ℕ, ◌≤◌, List}
use Rattle.std.proofs.Common.{sym, ap, ◌∙◌, subst}
use Rattle.notation.specs.Checked.{refused, passed, mapped}
use Rattle.notation.specs.Lists.{padded}
use Rattle.taskfile.specs.declared.Table.{Table}
use Rattle.taskfile.specs.File.{load}
use Rattle.taskfile.specs.Judgement.{task_numbers}
use Rattle.taskfile.specs.Records.{File}
use Rattle.timing.specs.declared.JobList.{JobList}
use Rattle.timing.specs.Accepted.{Accepted, accept, responses_of}
use Rattle.timing.specs.Jobs.{job_count, jobs_of}
use Rattle.timing.specs.Code.AcceptParts.{accepted_file}
use Rattle.timing.specs.Code.JobParts.{job_list_of, WithinPeriods}
use Rattle.timing.specs.Code.ResponseParts.{Timeable}
use Rattle.timing.proofs.Laws.AcceptLaws.{mapped_refused, mapped_passed, answers_passed, accepted_timeable, accepted_jobs, found_within}
use Rattle.timing.proofs.Laws.AcceptedLaws.{file_accepted}
use Rattle.timing_acceptance.specs.declared.entries.TimedFile.{TimedFile}
use Rattle.timing_acceptance.specs.Code.TimedParts.{timed_file}

-- a table whose response times were found and whose jobs are at most 32
pub times_passed : (f : File) {t : Table} → passed t ≡ mapped (λ loaded. loaded.table) (load f) → {times : List ℕ}
    → passed times ≡ mapped (padded 8 0) (responses_of t (task_numbers t)) → {total : ℕ} → total ≡ job_count t → total ≤ 32
    → passed (record { table = t; responses = times; jobs = total }) ≡ mapped timed_file (accept f)
unfolding mapped timed_file
times_passed f loading timing counted few =
    let held = answers_passed f timed_file loading timing counted few in
    (λ i. passed (record { table = held.2 i; responses = held.3 i; jobs = held.4 i })) ∙ sym (ap (mapped timed_file) held.1)

module _ (f : File) where
  -- a refusal is that of the file
  pub timed_refused : {n p : ℕ} → refused n p ≡ mapped timed_file (accept f) → accept f ≡ refused n p
  timed_refused e = mapped_refused timed_file (accept f) e

  -- whatever an accepted file is led to
  pub timed_refused_all : {B : Type 0} (g : Accepted → B) {n p : ℕ} → refused n p ≡ mapped timed_file (accept f)
      → refused n p ≡ mapped g (accept f)
  unfolding mapped
  timed_refused_all g e = sym (ap (mapped g) (timed_refused e))

  module _ {x : TimedFile} (e : passed x ≡ mapped timed_file (accept f)) where
    -- what was accepted
    pub timed_accepted : (a : Accepted) × (accept f ≡ passed a) × (x ≡ timed_file a)
    timed_accepted = mapped_passed timed_file (accept f) e

    -- the jobs can be listed
    pub timed_timeable : Timeable x.table
    unfolding timed_file
    timed_timeable =
        let found = timed_accepted in
        subst (λ (y : TimedFile). Timeable y.table) (sym found.2) (accepted_timeable f found.1)

    pub timed_few : job_count x.table ≤ 32
    unfolding timed_file
    timed_few =
        let found = timed_accepted in
        subst (λ (y : TimedFile). job_count y.table ≤ 32) (sym found.2) (file_accepted f found.1).is_timed.few

    pub timed_within : WithinPeriods x.table x.responses
    unfolding timed_file
    timed_within =
        let found = timed_accepted in
        subst (λ (y : TimedFile). WithinPeriods y.table y.responses) (sym found.2)
        (found_within (accepted_timeable f found.1) (file_accepted f found.1).is_timed.found refl)

    -- and are those of the file
    pub timed_listed : {list : JobList} → list ≡ job_list_of (jobs_of x.table x.responses)
        → passed (record { table = x.table; responses = x.responses; list = list }) ≡ mapped accepted_file (accept f)
    unfolding mapped timed_file accepted_file
    timed_listed {list} listed =
        let found = timed_accepted in
        let same : list ≡ job_list_of found.0.jobs =
        listed ∙ ap (λ (y : TimedFile). job_list_of (jobs_of y.table y.responses)) found.2 ∙ accepted_jobs f found.1 in
        (λ i. passed (record { table = (found.2 i).table; responses = (found.2 i).responses; list = same i }))
        ∙ sym (ap (mapped accepted_file) found.1)
