-- `machine_performing::effects::end_in` meets its contract: the locks are cleared, and then the job goes on; it is the
-- effect's flag that says that it has ended.
-- Assumes nothing.
use Rattle.std.proofs.Common.{refl}
use Rattle.machine.specs.Instructions.{end_job, with_held, skipping}
use Rattle.machine_performing.specs.Laws.PerformedLaws.{performed_as, performed_then, running_on}
use Rattle.machine_performing.proofs.effects.end_in.Goals as goal

pub go_on-requires : goal.go_on-requires
unfolding with_held
go_on-requires c = running_on c.clear_held.ensures c.requires refl

pub returns : goal.returns
unfolding end_job
returns c =
    let made = performed_then c.clear_held.ensures (skipping 0) c.go_on.ensures in
    record { failed = refl; made = performed_as made _ refl refl }
