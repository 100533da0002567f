-- `walk_trials::entries::admitted` meets its contract: a refused file, a buffer that is too short, and an accepted file.
-- Assumes nothing.
use Rattle.std.proofs.Common.{◌≡◌, ◌∙◌, arith, rules}
use Rattle.notation.specs.Checked.{refused}
use Rattle.taskfile.specs.Code.Refusals.{outcome, number_of}
use Rattle.walk_trials.specs.Laws.WalkEntryLaws.{admitted_refused, admitted_short, admitted_room}
use Rattle.walk_trials.proofs.entries.admitted.Goals as goal

pub returns-in_err-accepted : goal.returns-in_err-accepted
returns-in_err-accepted c =
    let e = c.in_err-accepted.field-0.0 in
    let refuses : outcome c.from_residual.result ≡ refused (number_of e.why) e.place = search rules in
    refuses ∙ admitted_refused _ _ c.in_err-accepted.ensures

pub returns-then-out-lt-ORDER_ROOM : goal.returns-then-out-lt-ORDER_ROOM
returns-then-out-lt-ORDER_ROOM c =
    let few = c.if-out-lt-ORDER_ROOM.true in
    rw c.at.ensures (admitted_short _ _ c.in_ok-accepted.ensures (omega (arith, few)))

pub returns : goal.returns
returns c = admitted_room _ _ c.in_ok-accepted.ensures (search rules)
