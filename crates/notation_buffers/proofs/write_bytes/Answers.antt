-- One byte more at each step.
-- Assumes nothing.
use Rattle.std.proofs.Common.{arith}
use Rattle.notation_buffers.specs.Laws.BytesLaws.{bytes_none, bytes_more, bytes_length, bytes_all}
use Rattle.notation_buffers.proofs.write_bytes.Goals as goal

pub loop-byte-init : goal.loop-byte-init
loop-byte-init c = bytes_none _ _ _ _

pub write_byte-next-requires : goal.write_byte-next-requires
write_byte-next-requires c = omega (arith, bytes_length c.loop-byte.invariant c.requires, c.requires)

pub loop-byte-preserved : goal.loop-byte-preserved
loop-byte-preserved c = bytes_more c.loop-byte.invariant c.requires c.loop-byte-test.true c.write_byte-next.ensures

pub returns : goal.returns
returns c = bytes_all c.loop-byte.invariant c.loop-byte-test.false
