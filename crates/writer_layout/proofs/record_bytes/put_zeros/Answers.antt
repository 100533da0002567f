-- `writer_layout::record_bytes::put_zeros` meets its contract: the front of a row of zeros is as many zeros.
-- Assumes nothing.
use Rattle.std.proofs.Common.{arith}
use Rattle.std.proofs.lemmas.List.{take-replicate}
use Rattle.notation_buffers.specs.Laws.PageLaws.{puts_same}
use Rattle.writer_layout.proofs.record_bytes.put_zeros.Goals as goal

pub returns : goal.returns
returns c = puts_same (take-replicate c.args.n 255 0 (omega arith)) (rw c.from.ensures at c.put_word.ensures)
