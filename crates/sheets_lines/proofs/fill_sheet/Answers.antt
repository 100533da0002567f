-- A text that may be too short, and one with room for every sheet.
-- Assumes nothing.
use Rattle.std.proofs.Common.{refl, rules, arith}
use Rattle.notation_buffers.specs.Laws.FrontLaws.{page_puts}
use Rattle.sheets_lines.specs.Laws.SheetLaws.{sheet_no_room, sheet_within, sheet_answers}
use Rattle.sheets_lines.proofs.fill_sheet.Goals as goal

pub returns-then-text-lt-SHEET_ROOM : goal.returns-then-text-lt-SHEET_ROOM
returns-then-text-lt-SHEET_ROOM c =
    let left = sheet_no_room c.args.file.now c.args.text.now (omega (arith, c.if-text-lt-SHEET_ROOM.true)) in
    record { answer = left.0; written = left.1 }

pub overflow_cast-result : goal.overflow_cast-result
overflow_cast-result c =
    let page = c.new-page.ensures in
    let puts = page_puts page.holds page.front c.put_sheet.ensures c.written.ensures.counts refl in
    omega (arith, sheet_within c.args.file.now c.args.text.now c.if-text-lt-SHEET_ROOM.false puts)

pub returns : goal.returns
returns c =
    let page = c.new-page.ensures in
    let left =
    sheet_answers c.args.file.now _ c.if-text-lt-SHEET_ROOM.false
    (page_puts page.holds page.front c.put_sheet.ensures c.written.ensures.counts (search rules)) in
    record { answer = left.0; written = left.1 }
