-- `machine_performing::effects::take_register` meets its contract: the register is put, and then the job goes on.
-- Assumes nothing.
use Rattle.std.proofs.Common.{refl}
use Rattle.machine.specs.Instructions.{with_register}
use Rattle.machine_performing.specs.Laws.PerformedLaws.{running_on}
use Rattle.machine_performing.proofs.effects.take_register.Goals as goal

pub go_on-requires : goal.go_on-requires
unfolding with_register
go_on-requires c = running_on c.put_register.ensures c.requires refl
