-- `writer_layout::record_bytes::put_lock` meets its contract: its parts stand one after the other.
-- Assumes nothing.
use Rattle.writer.specs.Layout.{lock_record}
use Rattle.notation_buffers.specs.Laws.PageLaws.{puts_more}
use Rattle.writer_layout.proofs.record_bytes.put_lock.Goals as goal

pub returns : goal.returns
unfolding lock_record
returns c = puts_more (puts_more c.put_word.ensures c.put_wide.ensures) c.put_word-2.ensures
