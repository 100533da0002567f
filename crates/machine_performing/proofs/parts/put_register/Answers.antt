-- `machine_performing::parts::put_register` meets its contract: it writes the register's byte, and past the four registers
-- nothing.
-- Assumes nothing.
use Rattle.std.proofs.Common.{rules}
use Rattle.machine_performing.specs.Laws.PartWrites.{register_put, register_none}
use Rattle.machine_performing.proofs.parts.put_register.Goals as goal

pub returns-then-r-lt-MOST_REGISTERS : goal.returns-then-r-lt-MOST_REGISTERS
returns-then-r-lt-MOST_REGISTERS c = register_put _ _ _ _ (search rules) (search rules) c.if-r-lt-MOST_REGISTERS.true

pub returns-else-r-lt-MOST_REGISTERS : goal.returns-else-r-lt-MOST_REGISTERS
returns-else-r-lt-MOST_REGISTERS c = register_none _ _ _ _ c.if-r-lt-MOST_REGISTERS.false
