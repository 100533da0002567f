-- `machine_performing::parts::variable_in` meets its contract: it reads the variable's byte, and past the eight variables
-- there is 0.
-- Assumes nothing.
use Rattle.std.proofs.Common.{rules}
use Rattle.machine_performing.specs.Laws.PartReads.{variable_read, variable_past}
use Rattle.machine_performing.proofs.parts.variable_in.Goals as goal

pub returns-then-v-lt-MOST_VARIABLES : goal.returns-then-v-lt-MOST_VARIABLES
returns-then-v-lt-MOST_VARIABLES c = variable_read _ _ (search rules)

pub returns-else-v-lt-MOST_VARIABLES : goal.returns-else-v-lt-MOST_VARIABLES
returns-else-v-lt-MOST_VARIABLES c = variable_past _ _ (search rules)
