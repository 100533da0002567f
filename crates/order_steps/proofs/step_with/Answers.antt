-- `order_steps::step_with` meets its contract: the job placed is the one of the frame, and it steps there.
-- Assumes nothing.
use Rattle.order_steps.proofs.step_with.Goals as goal

pub invariant_of-s : goal.invariant_of-s
invariant_of-s c =
    let h = c.step_placed.ensures _ _ c.args.s.now.whole c.put_frame.ensures in record { whole = h.1 }
