-- `order_steps::make_move` meets its contract: the job whose turn it is stands at its position, and its step there is the
-- move.
-- Assumes nothing.
use Rattle.order_steps.specs.Laws.MovingLaws.{move_made}
use Rattle.order_steps.proofs.make_move.Goals as goal

pub returns : goal.returns
returns c =
    let put = c.place-under.ensures in
    let made = c.step_placed.ensures _ _ c.args.s.now.whole put.1 in
    move_made _ _ _ _ put.0 made.0

pub invariant_of-s : goal.invariant_of-s
invariant_of-s c =
    let made = c.step_placed.ensures _ _ c.args.s.now.whole c.place-under.ensures.1 in record { whole = made.1 }
