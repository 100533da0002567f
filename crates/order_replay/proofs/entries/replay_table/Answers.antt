-- `order_replay::entries::replay_table` meets its contract: what is lent holds the table, so the replay on snapshots is
-- that of the definition.
-- Assumes nothing.
use Rattle.order_replay.specs.Laws.ReplayTableLaws.{replay_lent}
use Rattle.order_replay.proofs.entries.replay_table.Goals as goal

pub returns : goal.returns
returns c = replay_lent _ _ c.lend-lent.ensures c.replay_from.ensures.came
