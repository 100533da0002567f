-- `machine_performing::effects::set_in` meets its contract: the value taken is the number b.
-- Assumes nothing.
use Rattle.std.proofs.Common.{refl}
use Rattle.machine.specs.Instructions.{set_number}
use Rattle.machine_performing.proofs.effects.set_in.Goals as goal

pub returns : goal.returns
unfolding set_number
returns c = record { failed = refl; made = c.take_register.ensures }
