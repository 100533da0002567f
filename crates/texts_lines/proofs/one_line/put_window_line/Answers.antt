-- `texts_lines::one_line::put_window_line` meets its contract. The words of the line stand one after the other.
-- Assumes nothing.
use Rattle.texts.specs.Grammar.{line_text, row_of}
use Rattle.texts.specs.Words.{window_word}
use Rattle.notation_buffers.specs.Laws.LineLaws.{line_begun, line_more, line_ended}
use Rattle.texts_lines.proofs.one_line.put_window_line.Goals as goal

pub returns : goal.returns
unfolding line_text row_of window_word
returns c =
    line_ended
    (line_more (line_begun c.put_word.ensures)
    (rw c.from.ensures at c.then_number.ensures))
    c.end_line.ensures
