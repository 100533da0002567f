-- One round more at each step.
-- Assumes nothing.
use Rattle.std.proofs.Common.{arith}
use Rattle.notation_buffers.specs.Laws.PageLaws.{parts_none, parts_more, parts_all}
use Rattle.matching_orders.specs.Code.Rows.{rows_in}
use Rattle.matching_orders.proofs.rows.put_rounds.Goals as goal

pub loop-r-init : goal.loop-r-init
loop-r-init c = parts_none _ _

pub loop-r-preserved : goal.loop-r-preserved
loop-r-preserved c = parts_more c.loop-r.invariant c.put_round.ensures

pub returns : goal.returns
unfolding rows_in
returns c = parts_all c.loop-r.invariant (omega arith)
