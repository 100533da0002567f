-- `order_states::states::put_frame` meets its contract: it writes the eight bytes of the job and its own state, and then its locks.
-- Assumes nothing.
use Rattle.std.proofs.Common.{arith, rules}
use Rattle.order_states.proofs.Laws.FrameWrites.{own_bytes, frame_written}
use Rattle.order_states.proofs.states.put_frame.Goals as goal

pub returns : goal.returns
unfolding own_bytes
returns c =
    frame_written _ _ _ _ _ c.args.local _ _ (omega arith) (search rules) (search rules)
    (rw c.to_le_bytes-next.ensures at c.put_eight.ensures) c.put_eight-2.ensures
