-- What `writer_layout::claimed_parts::record_total` owes and the search does not find.
use native.Mathlib.Omega.{arith}
use Rattle.writer.proofs.Laws.SiteLaws.{locks_counted}
use Rattle.writer_layout.specs.Laws.CountedLaws.{tasks_from, total_whole, total_more, total_all}
use Rattle.writer_layout.proofs.claimed_parts.record_total.Goals as goal

pub loop-i-init : goal.loop-i-init
loop-i-init c = (omega arith, total_whole _)

pub loop-i-preserved : goal.loop-i-preserved
loop-i-preserved c =
    let here =
    tasks_from c.args.t c.loop-i.i c.entry_of.ensures
    (omega (arith, c.task_count-i-end.ensures)) in
    (omega arith, total_more _ c.loop-i.i _ _ here c.body_count.ensures.0 c.loop-i.invariant.1)

pub returns : goal.returns
returns c =
    let all = total_all _ _ _ _ (omega arith) c.loop-i.invariant.1 in
    (omega (arith, all, locks_counted c.args.t), omega arith)
