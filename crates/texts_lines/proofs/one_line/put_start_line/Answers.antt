-- `texts_lines::one_line::put_start_line` meets its contract. The word, the values and the newline stand one after the other.
-- Assumes nothing.
use Rattle.texts.specs.Grammar.{line_text, row_of}
use Rattle.texts.specs.Words.{start_word}
use Rattle.notation_buffers.specs.Laws.LineLaws.{numbers_put}
use Rattle.texts_lines.proofs.one_line.put_start_line.Goals as goal

pub returns : goal.returns
unfolding line_text row_of start_word
returns c =
    numbers_put start_word _ c.put_word.ensures c.then_numbers.ensures c.end_line.ensures
