-- `timing_acceptance::entries::accept_file` meets its contract: what it lists are the jobs of the file.
-- Assumes nothing.
use mathlib.Core.Path.{◌≡◌, ◌∙◌}
use Rattle.std.proofs.Common.{rules}
use Rattle.notation.specs.Checked.{refused}
use Rattle.taskfile.specs.Code.Refusals.{outcome, number_of}
use Rattle.timing.specs.Code.AcceptParts.{accepted_file}
use Rattle.timing_acceptance.specs.Laws.TimedLaws.{timed_refused_all, timed_timeable, timed_few, timed_within, timed_listed}
use Rattle.timing_acceptance.proofs.entries.accept_file.Goals as goal

pub returns-in_err-timed : goal.returns-in_err-timed
returns-in_err-timed c =
    let e = c.in_err-timed.field-0.0 in
    let refuses : outcome c.from_residual.result ≡ refused (number_of e.why) e.place = search rules in
    refuses ∙ timed_refused_all _ accepted_file c.in_err-timed.ensures

pub jobs_of-list-requires : goal.jobs_of-list-requires
jobs_of-list-requires c =
    let timed = c.in_ok-timed.ensures in (timed_timeable _ timed, timed_few _ timed, timed_within _ timed)

pub returns : goal.returns
returns c = timed_listed _ c.in_ok-timed.ensures c.jobs_of-list.ensures
