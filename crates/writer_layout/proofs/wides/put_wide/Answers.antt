-- `writer_layout::wides::put_wide` meets its contract: the four bytes are the wide field's.
-- Assumes nothing.
use Rattle.writer.specs.Layout.{wide_bytes}
use Rattle.writer_layout.proofs.wides.put_wide.Goals as goal

pub returns : goal.returns
unfolding wide_bytes
returns c = rw (← c.to_le_bytes.ensures) c.put_word.ensures
