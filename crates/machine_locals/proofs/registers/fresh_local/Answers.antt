-- `machine_locals::registers::fresh_local` meets its contract: each field is the definition's, and the locks are what
-- `no_locks` gives.
-- Assumes nothing.
use Rattle.machine.specs.Instructions.{fresh}
use Rattle.machine_locals.proofs.registers.fresh_local.Goals as goal

pub returns : goal.returns
unfolding fresh
returns c = rw c.no_locks.ensures
