-- `machine_performing::effects::pick_in` meets its contract: the value taken is the choice.
-- Assumes nothing.
use Rattle.std.proofs.Common.{refl}
use Rattle.machine.specs.Instructions.{pick}
use Rattle.machine_performing.proofs.effects.pick_in.Goals as goal

pub returns : goal.returns
unfolding pick
returns c = record { failed = refl; made = c.take_register.ensures }
