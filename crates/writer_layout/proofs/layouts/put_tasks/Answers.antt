-- What `writer_layout::layouts::put_tasks` owes and the search does not find.
use mathlib.Core.Path.{refl}
use native.Mathlib.Omega.{arith}
use Rattle.writer.specs.Claims.{claimed_tasks}
use Rattle.writer_layout.specs.Laws.CountedLaws.{tasks_from}
use Rattle.writer_layout.specs.Laws.LayingLaws.{laying_whole, laying_more, laying_all}
use Rattle.writer_layout.specs.Laws.LayingLaws.{tasks_left_whole, tasks_left_more, tasks_left_none}
use Rattle.writer_layout.proofs.layouts.put_tasks.Goals as goal

pub loop-i-init : goal.loop-i-init
loop-i-init c = (omega arith, laying_whole _ (tasks_left_whole _))

pub loop-i-preserved : goal.loop-i-preserved
loop-i-preserved c =
    let all = c.task_count-count.ensures.0 in
    let tasks = claimed_tasks c.args.t in
    let here = tasks_from c.args.t c.loop-i.i c.entry_of-e.ensures (omega (arith, all)) in
    let split =
    tasks_left_more tasks c.loop-i.r c.loop-i.i here
    c.body_count.ensures.0 refl all c.link_at.ensures in
    (omega arith, laying_more split c.loop-i.invariant.1 c.put_task.ensures)

pub returns : goal.returns
returns c =
    laying_all (tasks_left_none _ _ c.loop-i.i (omega (arith, c.task_count-count.ensures)))
    c.loop-i.invariant.1
