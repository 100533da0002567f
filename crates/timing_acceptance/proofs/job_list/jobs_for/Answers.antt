-- `timing_acceptance::job_list::jobs_for` meets its contract: the refusals of the file and of the room, and the jobs of an accepted file.
-- Assumes nothing.
use mathlib.Core.Path.{◌≡◌, ◌∙◌}
use native.Mathlib.Omega.{arith}
use Rattle.std.proofs.Common.{rules}
use Rattle.notation.specs.Checked.{refused}
use Rattle.taskfile.specs.Code.Refusals.{outcome, number_of}
use Rattle.timing_acceptance.specs.Laws.ListedLaws.{lists_refused, lists_roomless, lists_accepted}
use Rattle.timing_acceptance.proofs.job_list.jobs_for.Goals as goal

pub returns-in_err-accepted : goal.returns-in_err-accepted
returns-in_err-accepted c = λ list long.
    let e = c.in_err-accepted.field-0.0 in
    let refuses : outcome c.from_residual.result ≡ refused (number_of e.why) e.place = search rules in
    refuses ∙ lists_refused _ list c.in_err-accepted.ensures

pub returns-then-room-lt-JOBS : goal.returns-then-room-lt-JOBS
returns-then-room-lt-JOBS c = λ list long.
    rw c.at.ensures (lists_roomless _ list c.in_ok-accepted.ensures (omega (arith, long, c.if-room-lt-JOBS.true)))

pub returns : goal.returns
returns c = λ list long. lists_accepted _ list c.in_ok-accepted.ensures (omega (arith, long, c.if-room-lt-JOBS.false))
