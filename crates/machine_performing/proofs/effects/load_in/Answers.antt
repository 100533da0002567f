-- `machine_performing::effects::load_in` meets its contract: the value taken is what `variable_in` gives.
-- Assumes nothing.
use Rattle.std.proofs.Common.{refl}
use Rattle.machine.specs.Instructions.{load_variable}
use Rattle.machine_performing.proofs.effects.load_in.Goals as goal

pub returns : goal.returns
unfolding load_variable
returns c =
    record { failed = refl; made = rw c.variable_in.ensures at c.take_register.ensures }
