-- `plan_check::entries::check_table` meets its contract: what is lent holds the table, so the run over arrays and the
-- rules over marks come to what the plan comes to.
-- Assumes nothing.
use mathlib.Core.Path.{refl}
use Rattle.std.proofs.Common.{rules}
use Rattle.std.proofs.lemmas.Result.{err_from_is_err_and}
use Rattle.plan_check.specs.Laws.CheckLaws.{run_out, rules_out, table_checked}
use Rattle.plan_check.proofs.entries.check_table.Goals as goal

pub returns-in_err-ran : goal.returns-in_err-ran
returns-in_err-ran c =
    let p = err_from_is_err_and c.from_residual.result c.from_residual.ensures.1 in
    rw (p.1, p.2) (run_out _ c.lend_times-l.ensures c.in_err-ran.ensures refl)

pub refuse_illegal-requires : goal.refuse_illegal-requires
refuse_illegal-requires c = (search rules, c.in_ok-ran.ensures.long)

pub returns-in_err-refuse_illegal : goal.returns-in_err-refuse_illegal
returns-in_err-refuse_illegal c =
    let p =
    err_from_is_err_and c.from_residual-in_err-refuse_illegal.result c.from_residual-in_err-refuse_illegal.ensures.1 in
    rw (p.1, p.2)
    (rules_out _ c.lend_times-l.ensures c.in_ok-ran.ensures refl _ c.in_err-refuse_illegal.ensures)

pub returns : goal.returns
returns c =
    table_checked _ c.lend_times-l.ensures c.in_ok-ran.ensures refl c.in_ok-refuse_illegal.ensures
    c.end_store-store.ensures
