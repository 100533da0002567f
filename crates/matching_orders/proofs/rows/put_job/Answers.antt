-- One step more at each step of the loop: its byte, or nothing.
-- Assumes nothing.
use Rattle.std.proofs.Common.{arith}
use Rattle.order_states.specs.Code.SnapshotSteps.{owner_in}
use Rattle.matching_orders.specs.Laws.RowLaws.{row_none, row_skip, row_more, row_all}
use Rattle.matching_orders.proofs.rows.put_job.Goals as goal
use Rattle.matching_orders.proofs.rows.put_job.Goals.{then-step-r, else-step-r}

pub loop-n-init : goal.loop-n-init
loop-n-init c = row_none _ _ _ _ _

pub loop-n-preserved : goal.loop-n-preserved
unfolding owner_in
loop-n-preserved c =
    let row = c.loop-n.invariant in
    let read = c.step-step.ensures in
    elim c.if-step-r.branch [
      | then-step-r w ↦
          row_more row read w.if-step-r.true (rw c.from.ensures at w.order_byte.ensures)
          w.put_byte.ensures w.page-is
      | else-step-r w ↦ row_skip row read w.if-step-r.false w.page-is
    ]

pub returns : goal.returns
returns c = row_all c.loop-n.invariant (omega (arith, c.count-n-end.ensures.counts))
