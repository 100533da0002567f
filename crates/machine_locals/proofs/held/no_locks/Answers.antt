-- `machine_locals::held::no_locks` meets its contract: its array is the definition's list.
-- Assumes nothing.
use mathlib.Core.Path.{refl}
use Rattle.machine.specs.Held.{no_locks}
use Rattle.machine_locals.proofs.held.no_locks.Goals as goal

pub returns : goal.returns
unfolding no_locks
returns c = refl
