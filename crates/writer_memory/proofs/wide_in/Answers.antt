-- `writer_memory::wide_in` meets its contract: the four bytes are those of the definition.
-- Assumes nothing.
use Rattle.std.specs.Prelude.{◌≡◌, ◌+◌}
use Rattle.std.proofs.Common.{arith}
use Rattle.notation.specs.Lists.{from, up_to, bytes_at}
use Rattle.writer.specs.Memory.{byte_in, wide_in}
use Rattle.writer_memory.proofs.wide_in.Goals as goal

pub returns : goal.returns
unfolding wide_in byte_in bytes_at up_to from
returns c =
    let first : c.args.at + 0 ≡ c.args.at = omega arith in
    let sum = rw c.bytes_at.ensures at c.from_le_bytes.ensures in
    let more = rw first at sum in omega (arith, more)
