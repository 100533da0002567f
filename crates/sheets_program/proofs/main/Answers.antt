-- `sheets_program::main` writes what is within the text, since a sheet is within its room.
use Rattle.std.proofs.Common.{sym, length-take-le}
use Rattle.sheets_program.specs.Laws.AnswerSizes.{answer_within}
use Rattle.sheets_program.proofs.main.Goals as goal

pub slice_bounds-text-end : goal.slice_bounds-text-end
slice_bounds-text-end c = answer_within _ _ c.fill_sheet-x.ensures.answer c.fill_sheet-x.ensures.written

pub slice_bounds-write_all-end : goal.slice_bounds-write_all-end
slice_bounds-write_all-end c =
    sym (length-take-le _ _ (answer_within _ _ c.fill_sheet-x.ensures.answer c.fill_sheet-x.ensures.written))
