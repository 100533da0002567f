-- `machine_performing::effects::acquire_held` meets its contract: the count that it puts is the one that it reads and one
-- more, which is 16 at most.
-- Assumes nothing.
use Rattle.machine_performing.specs.Laws.PerformedLaws.{acquired}
use Rattle.machine_performing.proofs.effects.acquire_held.Goals as goal

pub returns : goal.returns
returns c = acquired _ _ c.held_in-count.ensures c.put_held.ensures
