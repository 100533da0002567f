-- `plan_marks::Marks::put` meets its contract: a step and a number of steps are written.
-- Assumes nothing.
use Rattle.plan_marks.specs.Laws.MarkLaws.{mark_written}
use Rattle.plan_marks.proofs.Marks.put.Goals as goal

pub returns : goal.returns
returns c = mark_written _ _ _ c.requires _ _ c.put_mark.ensures.counts c.put_mark.ensures.steps
