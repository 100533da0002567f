-- `machine_performing::parts::put_variable` meets its contract: it writes the variable's byte, and past the eight variables
-- nothing.
-- Assumes nothing.
use Rattle.std.proofs.Common.{rules}
use Rattle.machine_performing.specs.Laws.PartWrites.{variable_put, variable_none}
use Rattle.machine_performing.proofs.parts.put_variable.Goals as goal

pub returns-then-v-lt-MOST_VARIABLES : goal.returns-then-v-lt-MOST_VARIABLES
returns-then-v-lt-MOST_VARIABLES c = variable_put _ _ _ (search rules) c.if-v-lt-MOST_VARIABLES.true

pub returns-else-v-lt-MOST_VARIABLES : goal.returns-else-v-lt-MOST_VARIABLES
returns-else-v-lt-MOST_VARIABLES c = variable_none _ _ _ c.if-v-lt-MOST_VARIABLES.false
