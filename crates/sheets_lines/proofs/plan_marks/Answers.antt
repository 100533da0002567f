-- `sheets_lines::plan_marks` meets its contract: the plan stands whole in its array, and its check leaves its marks.
-- Assumes nothing.
use mathlib.Core.Path.{sym}
use native.Mathlib.Omega.{arith}
use lib.Seq.{length-take-le}
use Rattle.sheets_lines.specs.Laws.PlanMarks.{plan_room_lem, plan_marked, plan_unrefused}
use Rattle.sheets_lines.proofs.plan_marks.Goals as goal

pub write_plan-size-requires : goal.write_plan-size-requires
write_plan-size-requires c = plan_room_lem

pub slice_bounds-plan-end : goal.slice_bounds-plan-end
slice_bounds-plan-end c = omega (arith, c.write_plan-size.ensures.fits)

pub slice_bounds-check_table-end : goal.slice_bounds-check_table-end
slice_bounds-check_table-end c = sym (length-take-le _ _ (omega (arith, c.write_plan-size.ensures.fits)))

pub returns-in-Ok : goal.returns-in-Ok
returns-in-Ok c = plan_marked c.write_plan-size.ensures c.in-Ok.ensures

pub returns-in-Err : goal.returns-in-Err
returns-in-Err c = rw c.none.ensures (plan_unrefused c.write_plan-size.ensures c.in-Err.ensures)
