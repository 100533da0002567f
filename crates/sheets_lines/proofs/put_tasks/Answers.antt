-- One task's line more at each step.
-- Assumes nothing.
use Rattle.std.proofs.Common.{arith}
use Rattle.notation_buffers.specs.Laws.PageLaws.{parts_none, parts_more, parts_all}
use Rattle.timing.proofs.Laws.TimeableLaws.{period_read}
use Rattle.sheets_lines.specs.Laws.TaskLines.{task_put}
use Rattle.sheets_lines.proofs.put_tasks.Goals as goal

pub loop-i-init : goal.loop-i-init
loop-i-init c = parts_none _ _

pub jobs_within-jobs-requires : goal.jobs_within-jobs-requires
jobs_within-jobs-requires c = rw c.from.ensures (period_read c.requires _ _ (omega arith))

pub loop-i-preserved : goal.loop-i-preserved
loop-i-preserved c =
    let jobs = rw c.from.ensures at c.jobs_within-jobs.ensures.0 in
    let line = rw (c.from-in-loop-i.ensures, c.from-in-loop-i-2.ensures) at c.put_task.ensures in
    parts_more c.loop-i.invariant (task_put c.requires.shaped _ _ _ c.loop-i-test.true jobs line)

pub returns : goal.returns
returns c = parts_all c.loop-i.invariant (omega arith)
