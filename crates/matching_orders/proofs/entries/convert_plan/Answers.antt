-- `matching_orders::entries::convert_plan` meets its contract: a refused file, a buffer that is too short, a refused
-- plan, and a legal plan's order. Assumes nothing.
use Rattle.std.proofs.Common.{◌≡◌, ◌∙◌, sym, arith, rules}
use Rattle.std.proofs.lemmas.Result.{err_from_is_err_and}
use Rattle.notation.specs.Checked.{refused}
use Rattle.taskfile.specs.Code.Refusals.{outcome, number_of}
use Rattle.order_lending.specs.Laws.LendLaws.{parts_lent}
use Rattle.matching_orders.specs.Laws.EntryLaws.{entry_refused, entry_no_room, entry_fault, entry_written}
use Rattle.matching_orders.proofs.entries.convert_plan.Goals as goal

pub returns-in_err-accepted : goal.returns-in_err-accepted
returns-in_err-accepted c =
    let e = c.in_err-accepted.field-0.0 in
    let refuses : outcome c.from_residual.result ≡ refused (number_of e.why) e.place = search rules in
    let is = entry_refused _ _ _ c.in_err-accepted.ensures in
    record { answer = is.0 ∙ sym refuses; buffer = is.1 }

pub returns-then-out-lt-ORDER_ROOM : goal.returns-then-out-lt-ORDER_ROOM
returns-then-out-lt-ORDER_ROOM c =
    let few = c.if-out-lt-ORDER_ROOM.true in
    let is = entry_no_room _ _ c.args.out.now c.in_ok-accepted.ensures (omega (arith, few)) in
    record { answer = rw c.at.ensures is.0; buffer = is.1 }

pub invariant_of-listed : goal.invariant_of-listed
invariant_of-listed c =
    let parts = parts_lent _ c.in_ok-accepted.ensures in record { shaped = parts.0; few = parts.1 }

pub returns-in_err-checked : goal.returns-in_err-checked
returns-in_err-checked c =
    let p = err_from_is_err_and c.from_residual-in_err-checked.result c.from_residual-in_err-checked.ensures.1 in
    let is = entry_fault _ _ _ c.in_ok-accepted.ensures c.if-out-lt-ORDER_ROOM.false c.in_err-checked.ensures in
    record { answer = rw (p.1, p.2) is.0; buffer = is.1 }

pub overflow_cast-result : goal.overflow_cast-result
overflow_cast-result c = omega (arith, c.write_order-length.ensures.fits)

pub returns : goal.returns
returns c =
    let is =
    entry_written _ _ _ c.in_ok-accepted.ensures c.if-out-lt-ORDER_ROOM.false c.in_ok-checked.ensures
    c.write_order-length.ensures in
    record { answer = is.0; buffer = is.1 }
