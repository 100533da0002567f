-- `machine_performing::effects::release_held` meets its contract: the count that it puts is the one that it reads and one
-- less, and a count of 0 stays.
-- Assumes nothing.
use Rattle.machine_performing.specs.Laws.PerformedLaws.{released_some, released_none}
use Rattle.machine_performing.proofs.effects.release_held.Goals as goal

pub returns-then-count-gt0 : goal.returns-then-count-gt0
returns-then-count-gt0 c =
    released_some _ _ c.held_in-count.ensures c.if-count-gt0.true c.put_held.ensures

pub returns-else-count-gt0 : goal.returns-else-count-gt0
returns-else-count-gt0 c = released_none _ _ _ _ c.held_in-count.ensures c.if-count-gt0.false
