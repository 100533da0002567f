-- `matching_plans::entries::convert_order` meets its contract: a refused file, a buffer that is too short, an order at
-- fault, and a complete order.
-- Assumes nothing.
use Rattle.std.proofs.Common.{◌≡◌, ◌∙◌, sym, arith, rules}
use Rattle.notation.specs.Checked.{refused}
use Rattle.taskfile.specs.Code.Refusals.{outcome, number_of}
use Rattle.order_lending.specs.Laws.LendLaws.{parts_lent}
use Rattle.order_states.proofs.Laws.ReplayEntryLaws.{answers_place}
use Rattle.matching_plans.proofs.Laws.OrderPlanEntryLaws.{planning_refused, planning_no_room, planning_fault, planning_written}
use Rattle.matching_plans.proofs.entries.convert_order.Goals as goal

pub returns-in_err-accepted : goal.returns-in_err-accepted
returns-in_err-accepted c =
    let e = c.in_err-accepted.field-0.0 in
    let refuses : outcome c.from_residual.result ≡ refused (number_of e.why) e.place = search rules in
    let answer = planning_refused _ _ _ c.in_err-accepted.ensures in
    record { answer = answer.0 ∙ sym refuses; buffer = answer.1 }

pub returns-then-out-lt-PLAN_ROOM : goal.returns-then-out-lt-PLAN_ROOM
returns-then-out-lt-PLAN_ROOM c =
    let answer = planning_no_room _ _ _ c.in_ok-accepted.ensures c.if-out-lt-PLAN_ROOM.true in
    record { answer = rw c.at.ensures answer.0; buffer = answer.1 }

pub invariant_of-listed : goal.invariant_of-listed
invariant_of-listed c =
    let parts = parts_lent _ c.in_ok-accepted.ensures in record { shaped = parts.0; few = parts.1 }

pub overflow_cast-e : goal.overflow_cast-e
overflow_cast-e c = omega (arith, answers_place _ c.in_ok-accepted.ensures _ _ c.replay_table.ensures c.in-Err.is)

pub returns-in-Err : goal.returns-in-Err
returns-in-Err c =
    let answer = planning_fault _ _ _ c.in_ok-accepted.ensures c.if-out-lt-PLAN_ROOM.false _ c.replay_table.ensures c.in-Err.is in
    record { answer = rw c.at-in-Err.ensures answer.0; buffer = answer.1 }

pub write_plan-length-requires : goal.write_plan-length-requires
write_plan-length-requires c = c.if-out-lt-PLAN_ROOM.false

pub overflow_cast-result : goal.overflow_cast-result
overflow_cast-result c = omega (arith, c.write_plan-length.ensures.fits)

pub returns-in-Ok : goal.returns-in-Ok
returns-in-Ok c =
    let answer =
    planning_written _ _ _ c.in_ok-accepted.ensures c.if-out-lt-PLAN_ROOM.false _ c.replay_table.ensures c.in-Ok.is
    c.write_plan-length.ensures in
    record { answer = answer.0; buffer = answer.1 }
