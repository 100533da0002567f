-- The words of the line stand one after the other.
-- Assumes nothing.
use Rattle.sheets.specs.SheetWords.{verdict_word}
use Rattle.notation_buffers.specs.Laws.LineLaws.{line_begun, line_more, line_ended}
use Rattle.notation_buffers.specs.Laws.PageLaws.{puts_more}
use Rattle.sheets_printing.proofs.lines.put_verdict.Goals as goal

pub returns : goal.returns
unfolding verdict_word
returns c =
    line_ended
    (line_more
    (line_more
    (line_begun c.put_word.ensures)
    (puts_more c.put_byte.ensures c.put_letters.ensures))
    c.then_number.ensures)
    c.end_line.ensures
