-- `texts_lines::all_lines::put_lock_lines` meets its contract. The loop's invariant: the lines of the first l locks are written.
--
-- Assumes nothing.
use lib.ListN.{take}
use Rattle.writer.specs.Claims.{lock_array}
use Rattle.texts.specs.Grammar.{line_text}
use Rattle.texts.specs.TextTables.{lock_line}
use Rattle.notation_buffers.specs.Laws.PageLaws.{ListedTo}
use Rattle.texts_lines.proofs.all_lines.put_lock_lines.Given as goal

abbrev pub invariant-loop-l : goal.invariant-loop-l
invariant-loop-l l = ListedTo (λ lock. line_text (lock_line lock)) (take l.t.locks (lock_array l.t)) l.l l.initial.page l.page
