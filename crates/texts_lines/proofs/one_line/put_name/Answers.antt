-- `texts_lines::one_line::put_name` meets its contract: the name is the word of the operation's row.
-- Assumes nothing.
use Rattle.notation_buffers.specs.Laws.PageLaws.{puts_same}
use Rattle.texts_lines.proofs.one_line.put_name.Goals as goal

pub returns : goal.returns
returns c = puts_same c.operation_line.ensures.name c.put_letters.ensures
