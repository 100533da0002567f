-- `machine_performing::effects::subtract_in` meets its contract: the wrapped difference is the definition's.
-- Assumes nothing.
use Rattle.std.proofs.Common.{refl}
use Rattle.machine.specs.Instructions.{subtract, minus}
use Rattle.machine_performing.proofs.effects.subtract_in.Goals as goal

pub returns : goal.returns
unfolding subtract minus
returns c =
    record {
      failed = refl;
      made = rw (c.register_in.ensures, c.register_in-2.ensures) at c.take_register.ensures;
    }
