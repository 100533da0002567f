-- The loop's invariant: the bytes up to the index were written.
-- Assumes nothing.
use Rattle.notation_buffers.specs.Laws.BytesLaws.{BytesTo}
use Rattle.notation_buffers.proofs.write_bytes.Given as goal

abbrev pub invariant-loop-byte : goal.invariant-loop-byte
invariant-loop-byte l = BytesTo l.room l.initial.out l.at l.bytes l.byte-index l.out l.next
