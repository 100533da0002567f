-- `machine_locals::held::holds_lock` meets its contract: its test is the definition's.
-- Assumes nothing.
use mathlib.Core.Path.{refl}
use Rattle.machine.specs.Held.{holds}
use Rattle.machine_locals.proofs.held.holds_lock.Goals as goal

pub returns : goal.returns
unfolding holds
returns c = refl
