-- `order_replay::entries::replay_file` meets its contract: a refused file, an order at fault, and a complete order.
-- Assumes nothing.
use Rattle.std.proofs.Common.{◌≡◌, ◌∙◌, arith, rules}
use Rattle.notation.specs.Checked.{refused}
use Rattle.taskfile.specs.Code.Refusals.{outcome, number_of}
use Rattle.order_states.proofs.Laws.ReplayEntryLaws.{entry_refused, answers_place, entry_ended}
use Rattle.order_lending.specs.Laws.LendLaws.{parts_lent}
use Rattle.order_replay.proofs.entries.replay_file.Goals as goal

pub returns-in_err-accepted : goal.returns-in_err-accepted
returns-in_err-accepted c =
    let e = c.in_err-accepted.field-0.0 in
    let refuses : outcome c.from_residual.result ≡ refused (number_of e.why) e.place = search rules in
    refuses ∙ entry_refused _ _ c.in_err-accepted.ensures

pub invariant_of-listed : goal.invariant_of-listed
invariant_of-listed c =
    let parts = parts_lent _ c.in_ok-accepted.ensures in record { shaped = parts.0; few = parts.1 }

pub overflow_cast-e : goal.overflow_cast-e
overflow_cast-e c = omega (arith, answers_place _ c.in_ok-accepted.ensures _ _ c.replay_table.ensures c.in-Err.is)

pub returns-in-Ok : goal.returns-in-Ok
returns-in-Ok c = rw c.in-Ok.is at (entry_ended _ c.in_ok-accepted.ensures _ _ c.replay_table.ensures)

pub returns-in-Err : goal.returns-in-Err
returns-in-Err c =
    rw c.at.ensures (rw c.in-Err.is at (entry_ended _ c.in_ok-accepted.ensures _ _ c.replay_table.ensures))
