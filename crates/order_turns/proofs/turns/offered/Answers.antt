-- `order_turns::turns::offered` meets its contract: a position past the body has no value on offer, and any other those of its
-- instruction.
-- Assumes nothing.
use Rattle.std.proofs.Common.{◌∙◌}
use borrow.Author.Tests.{le-ltb}
use Rattle.order_states.proofs.Laws.StateReads.{offered_past, offered_read}
use Rattle.order_turns.proofs.turns.offered.Goals as goal

pub returns-then-next-lt-POSITIONS : goal.returns-then-next-lt-POSITIONS
returns-then-next-lt-POSITIONS c = offered_read _ _ _ _ c.if-next-lt-POSITIONS.true c.instruction_at.ensures c.on_offer.ensures

pub returns-else-next-lt-POSITIONS : goal.returns-else-next-lt-POSITIONS
returns-else-next-lt-POSITIONS c =
    le-ltb _ _ c.if-next-lt-POSITIONS.false ∙ offered_past _ _ _ _ c.if-next-lt-POSITIONS.false
