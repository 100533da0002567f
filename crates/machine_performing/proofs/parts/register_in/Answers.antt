-- `machine_performing::parts::register_in` meets its contract: it reads the register's byte, and past the four registers there
-- is 0.
-- Assumes nothing.
use Rattle.std.proofs.Common.{rules}
use Rattle.machine_performing.specs.Laws.PartReads.{register_read, register_past}
use Rattle.machine_performing.proofs.parts.register_in.Goals as goal

pub returns-then-r-lt-MOST_REGISTERS : goal.returns-then-r-lt-MOST_REGISTERS
returns-then-r-lt-MOST_REGISTERS c = register_read _ _ _ (search rules)

pub returns-else-r-lt-MOST_REGISTERS : goal.returns-else-r-lt-MOST_REGISTERS
returns-else-r-lt-MOST_REGISTERS c = register_past _ _ _ (search rules)
