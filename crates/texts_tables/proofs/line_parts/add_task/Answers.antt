-- `texts_tables::line_parts::add_task` meets its contract: the array and the count are those of the definition.
-- Assumes nothing.
use Rattle.texts.specs.Code.AddedLines.{add_task, with_tasks}
use Rattle.texts_tables.proofs.line_parts.add_task.Goals as goal

pub returns : goal.returns
unfolding add_task with_tasks
returns c = λ i. with_tasks c.args.t.now (c.one_more-t.ensures i) (c.keep.ensures i)
