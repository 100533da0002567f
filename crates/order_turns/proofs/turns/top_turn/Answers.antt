-- `order_turns::turns::top_turn` meets its contract: its parts are the definition's, read from the state's bytes.
-- Assumes nothing.
use native.Mathlib.Omega.{arith}
use Rattle.order_states.specs.Code.StateBytes.{snapshot_in}
use Rattle.order_states.proofs.Laws.StateReads.{top_turn_read}
use Rattle.order_turns.proofs.turns.top_turn.Goals as goal

pub overflow_sub-top : goal.overflow_sub-top
unfolding snapshot_in
overflow_sub-top c = c.requires

pub frame_at-requires : goal.frame_at-requires
unfolding snapshot_in
frame_at-requires c = omega (arith, c.args.s.now.whole.few, c.requires)

pub returns : goal.returns
unfolding snapshot_in
returns c = top_turn_read _ c.args.s.now.whole c.requires c.frame_at.ensures
