-- `order_replay::replaying::end_at` meets its contract: the store and the failed jobs are what is read of the state.
-- Assumes nothing.
use Rattle.order_replay.specs.Laws.ReadLaws.{outcome_made}
use Rattle.order_replay.proofs.replaying.end_at.Goals as goal

pub returns : goal.returns
returns c = outcome_made _ c.bytes_at-store.ensures c.failed_in-failed.ensures
