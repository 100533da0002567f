-- `writer_layout::layouts::put_tasks` meets its contract. The loop's invariant: the records of the first i tasks are written, and
-- those of the others are left, of which the first comes to stand at index r.
-- Assumes nothing.
use Prim.Native.Nat.{◌+◌, ◌*◌, ◌≤◌}
use Rattle.writer.specs.Claims.{claimed_tasks}
use Rattle.writer.specs.Layout.{task_records}
use Rattle.writer_layout.specs.Laws.LayingLaws.{Laying, tasks_left}
use Rattle.writer_layout.proofs.layouts.put_tasks.Given as goal

abbrev pub invariant-loop-i : goal.invariant-loop-i
invariant-loop-i l =
    (l.r ≤ 1 + 18 * l.i)
    × Laying l.initial.page (task_records 1 (claimed_tasks l.t)) l.page (tasks_left (claimed_tasks l.t) l.r l.i)
