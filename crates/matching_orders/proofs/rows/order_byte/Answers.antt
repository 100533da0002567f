-- The byte of a task and a value that are both below 16, or 0.
-- Assumes nothing.
use Rattle.std.proofs.Common.{arith}
use Rattle.std.proofs.lemmas.Bool.Decides.{nat_tests}
use Rattle.matching_orders.specs.Code.Rows.{written_byte}
use Rattle.matching_orders.proofs.rows.order_byte.Goals as goal

pub returns-then-value-lt-VALUES : goal.returns-then-value-lt-VALUES
unfolding written_byte
returns-then-value-lt-VALUES c = grind (arith, nat_tests)

pub returns-else-task-lt-VALUES : goal.returns-else-task-lt-VALUES
unfolding written_byte
returns-else-task-lt-VALUES c = grind (arith, nat_tests)
