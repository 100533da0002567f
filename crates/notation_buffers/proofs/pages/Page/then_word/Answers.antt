-- A space, then the word.
-- Assumes nothing.
use Rattle.notation_buffers.specs.Laws.PageLaws.{puts_more}
use Rattle.notation_buffers.proofs.pages.Page.then_word.Goals as goal

pub returns : goal.returns
returns c = puts_more c.put_byte.ensures c.put_word.ensures
