-- `sheets_lines::put_sheet` meets its contract: a refused file, and an accepted one.
-- Assumes nothing.
use Rattle.sheets_lines.specs.Laws.SheetLaws.{sheet_refused, table_timeable, jobs_within_room}
use Rattle.sheets_lines.specs.Laws.SheetLaws.{some_parts, sheet_put}
use Rattle.sheets_lines.proofs.put_sheet.Goals as goal

pub returns-in-Err : goal.returns-in-Err
returns-in-Err c =
    let line = rw (c.from.ensures, c.from-in-Err.ensures, c.number.ensures) at c.put_refused.ensures in
    sheet_refused _ c.in-Err.ensures line

pub put_tasks-requires : goal.put_tasks-requires
put_tasks-requires c = table_timeable _ c.in-Ok.ensures

pub invariant_of-listed : goal.invariant_of-listed
invariant_of-listed c =
    let says = c.in-Ok.ensures in record { shaped = (table_timeable _ says).shaped; few = jobs_within_room _ says }

pub put_findings-requires : goal.put_findings-requires
put_findings-requires c = some_parts _ c.in-Ok.ensures

pub returns-in-Ok : goal.returns-in-Ok
returns-in-Ok c =
    sheet_put _ c.in-Ok.ensures (rw (c.from-in-Ok.ensures, c.from-in-Ok-2.ensures) at c.put_totals.ensures)
    c.put_tasks.ensures c.put_findings.ensures
