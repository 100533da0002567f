-- `texts_lines::one_line::put_instruction_line` meets its contract. The name, the used fields and the newline stand one after the
-- other.
-- Assumes nothing.
use mathlib.Core.Path.{sym}
use native.Mathlib.Omega.{arith}
use lib.Seq.{length-take-le}
use Rattle.texts.proofs.Laws.RowLaws.{used_of, used_few}
use Rattle.texts_lines.specs.Laws.LineTextLaws.{instruction_line_put}
use Rattle.texts_lines.proofs.one_line.put_instruction_line.Goals as goal

pub slice_bounds-fields-end : goal.slice_bounds-fields-end
unfolding used_of
slice_bounds-fields-end c =
    omega (arith, used_few c.args.i.operation, c.field_count-used.ensures)

pub slice_bounds-then_numbers-end : goal.slice_bounds-then_numbers-end
unfolding used_of
slice_bounds-then_numbers-end c =
    sym
    (length-take-le _ _
    (omega (arith, used_few c.args.i.operation, c.field_count-used.ensures)))

pub returns : goal.returns
returns c =
    instruction_line_put _ c.field_count-used.ensures c.put_name.ensures
    c.then_numbers.ensures c.end_line.ensures
