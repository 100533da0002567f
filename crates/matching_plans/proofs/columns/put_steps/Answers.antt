-- One step more at each step of the loop, by its two bytes.
-- Assumes nothing.
use Rattle.std.proofs.Common.{arith}
use Rattle.notation_buffers.specs.Laws.PageLaws.{puts_more, parts_none, parts_more}
use Rattle.matching_plans.proofs.Laws.PutLaws.{step_bytes, step_put, column_put}
use Rattle.matching_plans.proofs.columns.put_steps.Goals as goal

pub loop-n-init : goal.loop-n-init
loop-n-init c = parts_none _ _

pub loop-n-preserved : goal.loop-n-preserved
unfolding step_bytes
loop-n-preserved c =
    let both = step_put c.step-step.ensures (puts_more c.put_byte.ensures c.put_byte-in-loop-n.ensures) in
    parts_more c.loop-n.invariant both

pub returns : goal.returns
returns c = column_put _ _ c.loop-n.invariant (omega (arith, c.count-n-end.ensures.counts))
