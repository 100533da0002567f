-- `machine_performing::parts::next_in` meets its contract: it reads both bytes of the next position.
-- Assumes nothing.
use Rattle.std.proofs.Common.{arith}
use Rattle.machine_performing.specs.Laws.PartReads.{next_read}
use Rattle.machine_performing.proofs.parts.next_in.Goals as goal

pub returns : goal.returns
returns c = next_read _ _ _ (omega (arith, c.from_le_bytes.ensures))
