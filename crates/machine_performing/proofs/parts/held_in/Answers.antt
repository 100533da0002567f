-- `machine_performing::parts::held_in` meets its contract: it reads the byte of the lock's count, and past the eight locks
-- there is 0.
-- Assumes nothing.
use Rattle.std.proofs.Common.{rules}
use Rattle.machine_performing.specs.Laws.PartReads.{held_read, held_past}
use Rattle.machine_performing.proofs.parts.held_in.Goals as goal

pub returns-then-lock-lt-MOST_LOCKS : goal.returns-then-lock-lt-MOST_LOCKS
returns-then-lock-lt-MOST_LOCKS c = held_read _ _ _ (search rules)

pub returns-else-lock-lt-MOST_LOCKS : goal.returns-else-lock-lt-MOST_LOCKS
returns-else-lock-lt-MOST_LOCKS c = held_past _ _ _ (search rules)
