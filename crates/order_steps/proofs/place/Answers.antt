-- `order_steps::place` meets its contract: the running job stands where it is, and a job that starts is placed over it.
-- Assumes nothing.
use Rattle.order_steps.specs.Laws.MovingLaws.{top_deep, top_placed, start_room, start_placed}
use Rattle.order_steps.proofs.place.Goals as goal

pub overflow_sub-result : goal.overflow_sub-result
overflow_sub-result c = top_deep _ _ _ c.requires.2 c.if-i-top.true

pub returns-then-i-top : goal.returns-then-i-top
returns-then-i-top c = top_placed _ _ _ c.requires.0 c.requires.2 c.if-i-top.true

pub put_frame-requires : goal.put_frame-requires
put_frame-requires c =
    start_room _ _ _ c.if-i-top.false c.requires.3

pub returns : goal.returns
returns c =
    start_placed _ _ _ c.if-i-top.false c.requires.1 c.fresh_local.ensures c.put_frame.ensures
