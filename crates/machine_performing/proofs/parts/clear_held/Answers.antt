-- `machine_performing::parts::clear_held` meets its contract: the eight bytes that it writes are no lock's.
-- Assumes nothing.
use Rattle.machine_performing.specs.Laws.PartWrites.{held_cleared}
use Rattle.machine_performing.proofs.parts.clear_held.Goals as goal

pub returns : goal.returns
returns c = held_cleared _ _ _ c.put_eight.ensures
