-- `walk_moves::position_of` meets its contract: the running job's position is read from its frame, and else it is 0.
-- Assumes nothing.
use native.Mathlib.Omega.{arith}
use Rattle.walk_moves.specs.Laws.PositionLaws.{depth_read, position_read, position_start}
use Rattle.walk_moves.proofs.position_of.Goals as goal

pub overflow_sub-s : goal.overflow_sub-s
overflow_sub-s c = omega (arith, depth_read _ (c.requires c.if-i-top.true))

pub returns-then-i-top : goal.returns-then-i-top
returns-then-i-top c =
    position_read _ (c.requires c.if-i-top.true) c.args.s.now.whole _ _ c.if-i-top.true c.next_in.ensures

pub returns : goal.returns
returns c = position_start _ _ _ c.if-i-top.false
