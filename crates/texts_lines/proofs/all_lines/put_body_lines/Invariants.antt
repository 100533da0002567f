-- `texts_lines::all_lines::put_body_lines` meets its contract. The loop's invariant: the lines of the first p instructions are
-- written.
-- Assumes nothing.
use Rattle.taskfile.specs.Tables.{body_of}
use Rattle.texts.specs.Grammar.{line_text}
use Rattle.texts.specs.TextTables.{instruction_line}
use Rattle.notation_buffers.specs.Laws.PageLaws.{ListedTo}
use Rattle.texts_lines.proofs.all_lines.put_body_lines.Given as goal

abbrev pub invariant-loop-p : goal.invariant-loop-p
invariant-loop-p l = ListedTo (λ i. line_text (instruction_line i)) (body_of l.e) l.p l.initial.page l.page
