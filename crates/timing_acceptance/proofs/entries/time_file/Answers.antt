-- `timing_acceptance::entries::time_file` meets its contract: each return is one case of `accept`.
-- Assumes nothing.
use mathlib.Core.Path.{◌≡◌, ◌∙◌}
use Rattle.std.proofs.Common.{rules}
use Rattle.notation.specs.Checked.{refused}
use Rattle.taskfile.specs.Code.Refusals.{outcome, number_of}
use Rattle.timing.proofs.Laws.AcceptLaws.{answers_refused, answers_timeable, answers_overload, answers_many}
use Rattle.timing_acceptance.specs.Code.TimedParts.{timed_file}
use Rattle.timing_acceptance.specs.Laws.TimedLaws.{times_passed}
use Rattle.timing_acceptance.proofs.entries.time_file.Goals as goal

pub returns-in_err-table : goal.returns-in_err-table
returns-in_err-table c =
    let e = c.in_err-table.field-0.0 in
    let refuses : outcome c.from_residual.result ≡ refused (number_of e.why) e.place = search rules in
    refuses ∙ answers_refused _ timed_file c.in_err-table.ensures

pub responses_of-requires : goal.responses_of-requires
responses_of-requires c = answers_timeable _ timed_file c.in_ok-table.ensures

pub returns-in-Err : goal.returns-in-Err
returns-in-Err c =
    rw c.at.ensures (answers_overload _ timed_file c.in_ok-table.ensures c.in-Err.ensures c.record_at.ensures)

pub job_total-total-requires : goal.job_total-total-requires
job_total-total-requires c = answers_timeable _ timed_file c.in_ok-table.ensures

pub returns-then-total-gt-MOST_TOTAL : goal.returns-then-total-gt-MOST_TOTAL
returns-then-total-gt-MOST_TOTAL c =
    rw c.at-then-total-gt-MOST_TOTAL.ensures
    (answers_many _ timed_file c.in_ok-table.ensures c.in-Ok.ensures c.job_total-total.ensures c.if-total-gt-MOST_TOTAL.true)

pub returns : goal.returns
returns c =
    times_passed _ c.in_ok-table.ensures c.in-Ok.ensures c.job_total-total.ensures c.if-total-gt-MOST_TOTAL.false
