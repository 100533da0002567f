-- `texts_lines::all_lines::put_tasks_lines` meets its contract. The loop's invariant: the lines of the first i tasks are written.
--
-- Assumes nothing.
use Rattle.taskfile.specs.Tables.{tasks_of}
use Rattle.texts.specs.Grammar.{joined}
use Rattle.texts.specs.TextTables.{task_lines}
use Rattle.notation_buffers.specs.Laws.PageLaws.{ListedTo}
use Rattle.texts_lines.proofs.all_lines.put_tasks_lines.Given as goal

abbrev pub invariant-loop-i : goal.invariant-loop-i
invariant-loop-i l = ListedTo (λ e. joined (task_lines e)) (tasks_of l.t) l.i l.initial.page l.page
