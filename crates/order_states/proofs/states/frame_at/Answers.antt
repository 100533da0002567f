-- `order_states::states::frame_at` meets its contract: it reads the definition's bytes.
-- Assumes nothing.
use Rattle.std.proofs.Common.{arith}
use Rattle.order_states.proofs.Laws.FrameReads.{frame_read}
use Rattle.order_states.proofs.states.frame_at.Goals as goal

pub returns : goal.returns
returns c =
    frame_read _ _ _ _ (omega (arith, c.from_le_bytes.ensures)) c.bytes_at-held.ensures
