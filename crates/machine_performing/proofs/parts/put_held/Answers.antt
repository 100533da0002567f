-- `machine_performing::parts::put_held` meets its contract: it writes the byte of the lock's count, and past the eight locks
-- nothing.
-- Assumes nothing.
use Rattle.std.proofs.Common.{rules}
use Rattle.machine_performing.specs.Laws.PartWrites.{held_put, held_none}
use Rattle.machine_performing.proofs.parts.put_held.Goals as goal

pub returns-then-lock-lt-MOST_LOCKS : goal.returns-then-lock-lt-MOST_LOCKS
returns-then-lock-lt-MOST_LOCKS c = held_put _ _ _ _ (search rules) (search rules) c.if-lock-lt-MOST_LOCKS.true

pub returns-else-lock-lt-MOST_LOCKS : goal.returns-else-lock-lt-MOST_LOCKS
returns-else-lock-lt-MOST_LOCKS c = held_none _ _ _ _ c.if-lock-lt-MOST_LOCKS.false
