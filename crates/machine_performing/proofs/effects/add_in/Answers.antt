-- `machine_performing::effects::add_in` meets its contract: the wrapped sum is the definition's.
-- Assumes nothing.
use Rattle.std.proofs.Common.{refl}
use Rattle.machine.specs.Instructions.{add, plus}
use Rattle.machine_performing.proofs.effects.add_in.Goals as goal

pub returns : goal.returns
unfolding add plus
returns c =
    record {
      failed = refl;
      made = rw (c.register_in.ensures, c.register_in-2.ensures) at c.take_register.ensures;
    }
