-- `order_replay::replaying::slip` meets its contract: each refusal is one case of the definition.
-- Assumes nothing.
use Rattle.order_replay.specs.Laws.SlipNumbers.{slip_outside, slip_unturned, slip_unoffered}
use Rattle.order_replay.proofs.replaying.slip.Goals as goal

pub returns-then-tasks-i : goal.returns-then-tasks-i
returns-then-tasks-i c = slip_outside _ _ _ _ _ _ c.if-tasks-i.true

pub returns-in-None : goal.returns-in-None
returns-in-None c = slip_unturned _ _ _ _ _ _ c.if-tasks-i.false c.in-None.ensures.turn

pub returns-in-Some : goal.returns-in-Some
returns-in-Some c = slip_unoffered _ _ _ _ _ _ c.if-tasks-i.false c.in-Some.ensures.turn
