-- `texts_lines::all_lines::put_task_lines` meets its contract: the task's line and its body's stand one after the other.
-- Assumes nothing.
use Rattle.texts_lines.specs.Laws.TextLineLaws.{task_lines_put}
use Rattle.texts_lines.proofs.all_lines.put_task_lines.Goals as goal

pub returns : goal.returns
returns c = task_lines_put _ c.put_task_line.ensures c.put_body_lines.ensures
