-- `writer_memory::instruction_in` meets its contract: each of its four bytes is the definition's.
-- Assumes nothing.
use Rattle.std.specs.Prelude.{◌≡◌, ◌+◌, refl}
use Rattle.std.proofs.Common.{arith}
use Rattle.writer.specs.Memory.{byte_in, instruction_in}
use Rattle.writer_memory.proofs.instruction_in.Goals as goal

pub returns : goal.returns
unfolding byte_in instruction_in
returns c = let first : c.args.at + 0 ≡ c.args.at = omega arith in rw first refl
