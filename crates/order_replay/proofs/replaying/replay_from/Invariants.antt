-- `order_replay::replaying::replay_from` meets its contract: each outcome is one case of the replay. The loop's invariant: the
-- whole replay is the replay of the bytes left, from the state in hand, and so is the state that it reaches.
-- Assumes nothing.
use Rattle.order_states.proofs.Laws.ReplayLoopLaws.{Reached}
use Rattle.order_states.specs.Code.StateBytes.{snapshot_in}
use Rattle.order_replay.specs.Laws.ReachLaws.{Leaves}
use Rattle.order_replay.proofs.replaying.replay_from.Given as goal

abbrev pub invariant-loop-index : goal.invariant-loop-index
invariant-loop-index l =
    Reached l.lent.program l.lent.waits l.lent.locks l.tasks (snapshot_in l.initial.s.bytes) l.order (snapshot_in l.s.bytes) l.index
    × Leaves l.lent.program l.lent.waits l.lent.locks (snapshot_in l.initial.s.bytes) l.order (snapshot_in l.s.bytes) l.index
