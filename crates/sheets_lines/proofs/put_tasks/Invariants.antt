-- The loop's invariant: the lines of the tasks below i are written.
-- Assumes nothing.
use Rattle.notation_buffers.specs.Laws.PageLaws.{PartsTo}
use Rattle.sheets_lines.specs.Code.SheetParts.{task_text}
use Rattle.sheets_lines.proofs.put_tasks.Given as goal

abbrev pub invariant-loop-i : goal.invariant-loop-i
invariant-loop-i l = PartsTo (task_text l.t l.responses) l.i l.initial.page l.page
