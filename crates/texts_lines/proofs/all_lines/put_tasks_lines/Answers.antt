-- What `texts_lines::all_lines::put_tasks_lines` owes and the search does not find.
use Prim.Native.Nat.{◌<◌}
use native.Mathlib.Omega.{arith}
use lib.ListN.{length}
use Rattle.taskfile.specs.Tables.{tasks_of, no_task}
use Rattle.writer.proofs.Laws.FitsLaws.{table_fits}
use Rattle.notation_buffers.specs.Laws.PageLaws.{listed_none, listed_whole}
use Rattle.texts_lines.specs.Laws.TextLineLaws.{held_counted, held_more, lines_listed}
use Rattle.texts_lines.proofs.all_lines.put_tasks_lines.Goals as goal

pub loop-i-init : goal.loop-i-init
loop-i-init c = listed_none _ _ _

pub loop-i-preserved : goal.loop-i-preserved
unfolding tasks_of
loop-i-preserved c =
    let t = c.args.t in
    let counted = held_counted t.tasks t.entries (table_fits t _ c.well_formed.1.0).entries_full c.held_count-i-end.ensures in
    let inside : c.loop-i.i < length (tasks_of t) = omega (arith, counted) in
    let written = c.put_task_lines.ensures in
    held_more t.tasks t.entries no_task inside c.entry_of.ensures c.loop-i.invariant written

pub returns : goal.returns
unfolding tasks_of
returns c =
    let t = c.args.t in
    let counted = held_counted t.tasks t.entries (table_fits t _ c.well_formed.1.0).entries_full c.held_count-i-end.ensures in
    lines_listed _ _ (listed_whole c.loop-i.invariant (omega (arith, counted)))
