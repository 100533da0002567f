-- The replay from what is lent of a table's parts comes to what the order comes to.
-- Assumes nothing.
use Rattle.std.specs.Prelude.{◌≡◌, ℕ, List, Result}
use Rattle.notation.specs.Checked.{mapped}
use Rattle.machine.specs.declared.End.{End}
use Rattle.taskfile.specs.declared.refusals.Refused.{Refused}
use Rattle.taskfile.specs.Code.Refusals.{outcome}
use Rattle.std.proofs.Common.{ap, ◌∙◌}
use Rattle.taskfile.specs.declared.Table.{Table}
use Rattle.timing.specs.declared.JobList.{JobList}
use Rattle.order.proofs.Laws.StepLaws.{initial_invariant}
use Rattle.order_states.specs.Code.ReplayParts.{end_in, ReplayOf}
use Rattle.order_states.specs.Code.SnapshotSteps.{replay_in}
use Rattle.order_states.proofs.Laws.ReplayLaws.{replay_agreed, replay_kept}
use Rattle.order_states.specs.Code.StateBytes.{snapshot_in}
use Rattle.order_states.specs.declared.Lent.{Lent}
use Rattle.order_lending.specs.Code.Lending.{LentOf}

pub replay_lent : {t : Table} {list : JobList} {l : Lent} (order : List ℕ) (r : Result End (Refused ℕ)) → LentOf t list l
    → outcome r ≡ mapped end_in (replay_in l.program l.waits l.locks t.tasks (snapshot_in l.start.bytes) 0 order)
    → ReplayOf t list order r
replay_lent {l = l} order r lent is a ok table listed =
    let ends = replay_agreed ok (lent.lends a ok table listed) order (initial_invariant a) (lent.shows a ok table listed) 0 in
    is
    ∙ ap (λ (u : Table). mapped end_in (replay_in l.program l.waits l.locks u.tasks (snapshot_in l.start.bytes) 0 order)) table
    ∙ replay_kept a order _ ends
