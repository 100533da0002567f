-- `order_turns::starts::start_turn` meets its contract: its parts are the definition's, read from the state's bytes.
-- Assumes nothing.
use Rattle.order_states.proofs.Laws.StateReads.{start_turn_read}
use Rattle.order_turns.proofs.starts.start_turn.Goals as goal

pub returns : goal.returns
returns c = start_turn_read _ _ c.requires c.fresh_local.ensures
