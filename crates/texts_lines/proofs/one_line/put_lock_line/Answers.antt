-- `texts_lines::one_line::put_lock_line` meets its contract. The words of the line stand one after the other.
-- Assumes nothing.
use Rattle.texts.specs.Grammar.{line_text, row_of}
use Rattle.texts.specs.TextTables.{lock_line}
use Rattle.texts.specs.Words.{lock_word}
use Rattle.notation_buffers.specs.Laws.LineLaws.{line_begun, line_more, line_ended}
use Rattle.texts_lines.proofs.one_line.put_lock_line.Goals as goal

pub returns : goal.returns
unfolding line_text lock_line row_of lock_word
returns c =
    line_ended
    (line_more
    (line_more
    (line_begun c.put_word.ensures)
    (rw c.from.ensures at c.then_number.ensures))
    (rw c.from-2.ensures at c.then_number-2.ensures))
    c.end_line.ensures
