-- `texts_reading::line_forms::operation_row` meets its contract: past the operations there is End's row.
-- Assumes nothing.
use mathlib.Core.Path.{sym}
use native.Mathlib.Omega.{arith}
use Rattle.texts_reading.specs.Laws.RowOfLaws.{operation_past}
use Rattle.texts_reading.proofs.line_forms.operation_row.Goals as goal

pub returns-else-o-lt-OPERATIONS : goal.returns-else-o-lt-OPERATIONS
returns-else-o-lt-OPERATIONS c = (omega arith, sym (operation_past _ c.if-o-lt-OPERATIONS.false))
