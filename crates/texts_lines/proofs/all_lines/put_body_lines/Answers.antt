-- What `texts_lines::all_lines::put_body_lines` owes and the search does not find.
use Prim.Native.Nat.{◌<◌}
use native.Mathlib.Omega.{arith}
use lib.ListN.{length}
use Rattle.taskfile.specs.Tables.{body_of, end_instruction}
use Rattle.writer.proofs.Laws.FitsLaws.{entry_fits}
use Rattle.notation_buffers.specs.Laws.PageLaws.{listed_none, listed_whole}
use Rattle.texts_lines.specs.Laws.TextLineLaws.{held_counted, held_more, lines_put}
use Rattle.texts_lines.proofs.all_lines.put_body_lines.Goals as goal

pub loop-p-init : goal.loop-p-init
loop-p-init c = listed_none _ _ _

pub loop-p-preserved : goal.loop-p-preserved
unfolding body_of
loop-p-preserved c =
    let e = c.args.e in
    let counted = held_counted e.length e.body (entry_fits e _ c.well_formed.1.0).body c.held_count-p-end.ensures in
    let inside : c.loop-p.p < length (body_of e) = omega (arith, counted) in
    let written = c.put_instruction_line.ensures in
    held_more e.length e.body end_instruction inside c.instruction_of.ensures c.loop-p.invariant written

pub returns : goal.returns
unfolding body_of
returns c =
    let e = c.args.e in
    let counted = held_counted e.length e.body (entry_fits e _ c.well_formed.1.0).body c.held_count-p-end.ensures in
    lines_put _ _ (listed_whole c.loop-p.invariant (omega (arith, counted)))
