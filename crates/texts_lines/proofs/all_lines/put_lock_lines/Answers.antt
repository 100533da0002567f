-- What `texts_lines::all_lines::put_lock_lines` owes and the search does not find.
use Prim.Native.Nat.{◌<◌}
use native.Mathlib.Omega.{arith}
use lib.ListN.{length, take}
use Rattle.writer.specs.Claims.{lock_array, no_lock}
use Rattle.writer.proofs.Laws.FitsLaws.{table_fits}
use Rattle.writer.proofs.Laws.LockLaws.{locks_full}
use Rattle.notation_buffers.specs.Laws.PageLaws.{listed_none, listed_whole}
use Rattle.texts_lines.specs.Laws.TextLineLaws.{held_counted, held_more, lines_put}
use Rattle.texts_lines.proofs.all_lines.put_lock_lines.Goals as goal

pub loop-l-init : goal.loop-l-init
loop-l-init c = listed_none _ _ _

pub loop-l-preserved : goal.loop-l-preserved
loop-l-preserved c =
    let t = c.args.t in
    let counted = held_counted t.locks (lock_array t) (locks_full t (table_fits t _ c.well_formed.1.0)) c.held_count-l-end.ensures in
    let inside : c.loop-l.l < length (take t.locks (lock_array t)) = omega (arith, counted) in
    let written = c.put_lock_line.ensures in
    held_more t.locks (lock_array t) no_lock inside c.lock_of.ensures c.loop-l.invariant written

pub returns : goal.returns
returns c =
    let t = c.args.t in
    let counted = held_counted t.locks (lock_array t) (locks_full t (table_fits t _ c.well_formed.1.0)) c.held_count-l-end.ensures in
    lines_put _ _ (listed_whole c.loop-l.invariant (omega (arith, counted)))
