-- `texts_reading::line_forms::operation_line` meets its contract: the table has what the rows have.
-- Assumes nothing.
use Rattle.texts_reading.specs.Laws.OperationNameLaws.{names_opened, name_got, name_at, count_got, count_at}
use Rattle.texts_reading.proofs.line_forms.operation_line.Goals as goal

pub returns-clause-name : goal.returns-clause-name
unfolding names_opened
returns-clause-name c = rw name_got (name_at _ _ c.operation_row.ensures)

pub returns-clause-fields : goal.returns-clause-fields
unfolding names_opened
returns-clause-fields c = rw count_got (count_at _ _ c.operation_row.ensures)
