-- `machine_performing::effects::store_in` meets its contract: the variable takes what `register_in` gives, and then the job
-- goes on.
-- Assumes nothing.
use Rattle.std.proofs.Common.{refl}
use Rattle.machine.specs.Instructions.{store, skipping}
use Rattle.machine_performing.specs.Laws.PerformedLaws.{store_performed, performed_then, running_on}
use Rattle.machine_performing.proofs.effects.store_in.Goals as goal

pub go_on-requires : goal.go_on-requires
go_on-requires c = running_on (store_performed _ c.put_variable.ensures) c.requires refl

pub returns : goal.returns
unfolding store
returns c =
    let stored = store_performed _ c.put_variable.ensures in
    let made = performed_then stored (skipping 0) c.go_on.ensures in
    record { failed = refl; made = rw c.register_in.ensures at made }
