-- `plan_check::entries::check_file` meets its contract: a refused file, a refused plan, and a legal plan.
-- Assumes nothing.
use Rattle.std.proofs.Common.{◌≡◌, ◌∙◌, rules}
use Rattle.std.proofs.lemmas.Result.{err_from_is_err_and}
use Rattle.notation.specs.Checked.{refused}
use Rattle.taskfile.specs.Code.Refusals.{outcome, number_of}
use Rattle.order_lending.specs.Laws.LendLaws.{parts_lent}
use Rattle.plan_check.specs.Laws.PlanEntryLaws.{entry_refused, answers_fault, answers_ended}
use Rattle.plan_check.proofs.entries.check_file.Goals as goal

pub returns-in_err-accepted : goal.returns-in_err-accepted
returns-in_err-accepted c =
    let e = c.in_err-accepted.field-0.0 in
    let refuses : outcome c.from_residual.result ≡ refused (number_of e.why) e.place = search rules in
    refuses ∙ entry_refused _ _ c.in_err-accepted.ensures

pub invariant_of-listed : goal.invariant_of-listed
invariant_of-listed c =
    let parts = parts_lent _ c.in_ok-accepted.ensures in record { shaped = parts.0; few = parts.1 }

pub returns-in_err-checked : goal.returns-in_err-checked
returns-in_err-checked c =
    let p = err_from_is_err_and c.from_residual-in_err-checked.result c.from_residual-in_err-checked.ensures.1 in
    rw (p.1, p.2) (answers_fault _ c.in_ok-accepted.ensures _ c.in_err-checked.ensures)

pub returns : goal.returns
returns c = answers_ended _ c.in_ok-accepted.ensures _ c.in_ok-checked.ensures
