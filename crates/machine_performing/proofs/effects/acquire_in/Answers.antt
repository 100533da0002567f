-- `machine_performing::effects::acquire_in` meets its contract: the lock is acquired, and then the job goes on. A job before
-- its sixteenth instruction at the latest holds no lock more than fifteen times.
-- Assumes nothing.
use Rattle.std.proofs.Common.{refl}
use Rattle.machine.specs.Instructions.{acquire_lock, skipping, with_held}
use Rattle.machine_performing.specs.Laws.PerformedLaws.{performed_then, running_on}
use Rattle.machine_performing.proofs.effects.acquire_in.Goals as goal

pub go_on-requires : goal.go_on-requires
unfolding with_held
go_on-requires c = running_on c.acquire_held.ensures c.requires.0 refl

pub returns : goal.returns
unfolding acquire_lock
returns c =
    let made = performed_then c.acquire_held.ensures (skipping 0) c.go_on.ensures in
    record { failed = refl; made = made }
