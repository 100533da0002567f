-- What is lent of a table's parts is as the contract says, and the parts of an accepted file can be lent.
-- Assumes nothing.
use Rattle.std.specs.Prelude.{◌≡◌, ℕ, ◌≤◌, List}
use Rattle.std.proofs.Common.{sym, ◌∙◌, arith}
use Rattle.std.proofs.Math.Path.{ap, subst}
use Rattle.std.proofs.Math.ListN.{length}
use Rattle.notation.specs.Checked.{passed, mapped}
use Rattle.taskfile.specs.declared.Ceilings.{Ceilings}
use Rattle.taskfile.specs.declared.Table.{Table}
use Rattle.taskfile.specs.Code.JudgingParts.{Shaped}
use Rattle.taskfile.specs.Records.{File}
use Rattle.timing.specs.declared.AcceptedFile.{AcceptedFile}
use Rattle.timing.specs.declared.JobList.{JobList}
use Rattle.timing.specs.Accepted.{Accepted, accept}
use Rattle.timing.specs.Code.AcceptParts.{accepted_file}
use Rattle.timing.specs.Code.IsAccepted.{IsAccepted}
use Rattle.timing.specs.Code.JobParts.{job_list_of}
use Rattle.timing.proofs.Laws.AcceptedLaws.{file_accepted}
use Rattle.timing.proofs.Laws.AcceptLaws.{accepted_passed}
use Rattle.timing.proofs.Laws.JobFacts.{jobs_few}
use Rattle.order.specs.States.{initial}
use Rattle.order_states.specs.Code.Lent.{OwnersTo, TimesTo, WaitsTo}
use Rattle.order_states.specs.Code.Shows.{Lends, LendsTimes, Shows}
use Rattle.order_states.specs.Code.Snapshots.{Snapshot}
use Rattle.order_states.specs.Code.SnapshotSteps.{first_snapshot}
use Rattle.order_states.proofs.Laws.LentLaws.{times_lent}
use Rattle.order_states.proofs.Laws.WaitLaws.{waits_lent}
use Rattle.order_states.proofs.Laws.ReplayLaws.{first_shown}
use Rattle.order_states.specs.declared.Lent.{Lent}
use Rattle.order_states.specs.declared.LentTimes.{LentTimes}
use Rattle.order_states.specs.Code.StateBytes.{snapshot_in}
use Rattle.order_lending.specs.Code.Lending.{LentOf, TimesOf, locks_of}

-- a table has no more locks than the array of their ceilings has places
pub locks_few : {t : Table} {locks : Ceilings} → Shaped t → locks ≡ locks_of t → locks.count ≤ 8
unfolding locks_of
locks_few shaped is = rw is shaped.locks_within

module _ {t : Table} {list : JobList} {program times : List ℕ} {locks : Ceilings}
    (owners : OwnersTo t list list.count program) (held : TimesTo list list.count times) (is : locks ≡ locks_of t) where
  holds : (a : Accepted) → IsAccepted a → t ≡ a.table → list ≡ job_list_of a.jobs
      → LendsTimes a program times locks
  unfolding locks_of
  holds a ok table listed =
      subst (LendsTimes a program times) (sym (is ∙ ap locks_of table))
      (times_lent ok listed (subst (λ (u : Table). OwnersTo u list list.count program) table owners) held)

  module _ {waits : List ℕ} (start : List ℕ) (made : WaitsTo program times list.count list.count waits)
      (first : snapshot_in start ≡ first_snapshot program t.store) where
    steps_lent : (a : Accepted) → IsAccepted a → t ≡ a.table → list ≡ job_list_of a.jobs
        → Lends a program waits locks
    unfolding job_list_of
    steps_lent a ok table listed =
        let counted : list.count ≡ length a.jobs = ap (λ (l : JobList). l.count) listed in
        waits_lent ok (holds a ok table listed) (subst (λ (n : ℕ). WaitsTo program times n n waits) counted made)

    begins : (a : Accepted) → IsAccepted a → t ≡ a.table → list ≡ job_list_of a.jobs
        → Shows a (snapshot_in start) (initial a)
    begins a ok table listed =
        subst (λ (p : Snapshot). Shows a p (initial a)) (sym (first ∙ ap (λ (u : Table). first_snapshot program u.store) table))
        (first_shown ok (steps_lent a ok table listed))

-- what is lent for the runs of a plan
pub times_of : {t : Table} {list : JobList} (l : LentTimes) → OwnersTo t list list.count l.program
    → TimesTo list list.count l.times → l.locks ≡ locks_of t → TimesOf t list l
times_of l owners held is = record { few = l.few; lends = holds owners held is }

-- what is lent to steps
pub lent_of : {t : Table} {list : JobList} (l : Lent) {times : List ℕ} → OwnersTo t list list.count l.program
    → TimesTo list list.count times → l.locks ≡ locks_of t → WaitsTo l.program times list.count list.count l.waits
    → snapshot_in l.start.bytes ≡ first_snapshot l.program t.store → LentOf t list l
lent_of l owners held is made first =
    record {
      few = l.few;
      whole = l.start.whole;
      lends = steps_lent owners held is l.start.bytes made first;
      shows = begins owners held is l.start.bytes made first;
    }

-- the table and the jobs of an accepted file can be lent
pub parts_lent : (f : File) {x : AcceptedFile} → passed x ≡ mapped accepted_file (accept f)
    → Shaped x.table × (x.list.count ≤ 32)
unfolding job_list_of
parts_lent f says =
    let found = accepted_passed (accept f) says in
    let ok = file_accepted f found.1 in (
      subst Shaped (sym found.2.table) ok.is_made.shaped,
      omega (arith, jobs_few ok.is_timed, ap (λ (l : JobList). l.count) found.2.list),
    )
