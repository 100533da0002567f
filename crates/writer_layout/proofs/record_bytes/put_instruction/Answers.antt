-- `writer_layout::record_bytes::put_instruction` meets its contract: its parts stand one after the other.
-- Assumes nothing.
use Rattle.writer.specs.Layout.{instruction_record}
use Rattle.notation_buffers.specs.Laws.PageLaws.{puts_more}
use Rattle.writer_layout.proofs.record_bytes.put_instruction.Goals as goal

pub returns : goal.returns
unfolding instruction_record
returns c = puts_more c.put_letters.ensures c.put_word.ensures
