-- Laws of the reader's entry, which has no need of the jobs but of how many there are: each is one way out of it.
-- Assumes nothing.
use Rattle.std.specs.Prelude.{◌≡◌, ℕ, ◌≤◌, ◌<◌, List}
use Rattle.std.proofs.Common.{ap}
use Rattle.notation.specs.Checked.{refused, passed, mapped}
use Rattle.notation.specs.Lists.{padded}
use Rattle.taskfile.specs.declared.Site.{Site}
use Rattle.taskfile.specs.declared.Table.{Table}
use Rattle.taskfile.specs.Code.ReadingParts.{site_record}
use Rattle.taskfile.specs.File.{load}
use Rattle.taskfile.specs.Judgement.{task_numbers}
use Rattle.taskfile.specs.Records.{File}
use Rattle.timing.specs.Accepted.{accept, responses_of}
use Rattle.timing.specs.Jobs.{job_count}
use Rattle.timing.proofs.Laws.AcceptLaws.{answers_refused, answers_overload, answers_many}
use Rattle.timing.proofs.Laws.AcceptLaws.{reads_refused, reads_accepted}
use Rattle.timing.specs.ReadEntries.{read_answer}
use Rattle.timing_acceptance.specs.declared.entries.TimedFile.{TimedFile}
use Rattle.timing_acceptance.specs.Code.ReadParts.{refused_read}
use Rattle.timing_acceptance.specs.Code.TimedParts.{timed_file}
use Rattle.timing_acceptance.specs.Laws.TimedLaws.{times_passed, timed_refused, timed_accepted}

module _ (f : File) where
  -- a file that is refused, and one that is accepted
  pub read_refused : {n p : ℕ} → refused n p ≡ mapped timed_file (accept f) → refused_read n p ≡ read_answer f
  read_refused e = reads_refused f (timed_refused f e)

  pub read_timed : {x : TimedFile} → passed x ≡ mapped timed_file (accept f)
      → record { number = 0; place = 0; responses = x.responses; jobs = x.jobs } ≡ read_answer f
  unfolding timed_file
  read_timed e =
      let found = timed_accepted f e in
      reads_accepted f found.1 (ap (λ (y : TimedFile). y.responses) found.2) (ap (λ (y : TimedFile). y.jobs) found.2)

  -- check by check
  pub read_refused_lem : {n p : ℕ} → refused n p ≡ mapped (λ loaded. loaded.table) (load f) → refused_read n p ≡ read_answer f
  read_refused_lem e = read_refused (answers_refused f timed_file e)

  module _ {t : Table} (loading : passed t ≡ mapped (λ loaded. loaded.table) (load f)) where
    pub read_overload : {n : ℕ} {s : Site} {r : ℕ} → refused n s ≡ mapped (padded 8 0) (responses_of t (task_numbers t))
        → r ≡ site_record f s → refused_read n r ≡ read_answer f
    read_overload h place = read_refused (answers_overload f timed_file loading h place)

    module _ {times : List ℕ} (timing : passed times ≡ mapped (padded 8 0) (responses_of t (task_numbers t)))
        {total : ℕ} (counted : total ≡ job_count t) where
      pub read_many : 32 < total → refused_read 11 0 ≡ read_answer f
      read_many many = read_refused (answers_many f timed_file loading timing counted many)

      pub read_accepted : total ≤ 32
          → record { number = 0; place = 0; responses = times; jobs = total } ≡ read_answer f
      read_accepted few = read_timed (times_passed f loading timing counted few)
