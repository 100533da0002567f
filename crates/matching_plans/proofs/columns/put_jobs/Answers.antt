-- One job more at each step.
-- Assumes nothing.
use Rattle.std.proofs.Common.{arith}
use Rattle.notation_buffers.specs.Laws.PageLaws.{parts_none, parts_more, parts_all}
use Rattle.matching_plans.specs.Code.Columns.{columns_in}
use Rattle.matching_plans.proofs.columns.put_jobs.Goals as goal

pub loop-x-init : goal.loop-x-init
loop-x-init c = parts_none _ _

pub loop-x-preserved : goal.loop-x-preserved
loop-x-preserved c = parts_more c.loop-x.invariant c.put_steps.ensures

pub returns : goal.returns
unfolding columns_in
returns c = parts_all c.loop-x.invariant (omega arith)
