-- `machine_performing::effects::release_in` meets its contract: the lock is released, and then the job goes on.
-- Assumes nothing.
use Rattle.std.proofs.Common.{refl}
use Rattle.machine.specs.Instructions.{release_lock, skipping, with_held}
use Rattle.machine_performing.specs.Laws.PerformedLaws.{performed_then, running_on}
use Rattle.machine_performing.proofs.effects.release_in.Goals as goal

pub go_on-requires : goal.go_on-requires
unfolding with_held
go_on-requires c = running_on c.release_held.ensures c.requires refl

pub returns : goal.returns
unfolding release_lock
returns c =
    let made = performed_then c.release_held.ensures (skipping 0) c.go_on.ensures in
    record { failed = refl; made = made }
