-- What `writer_layout::layouts::put_chain` owes and the search does not find.
use Rattle.std.proofs.Common.{◌≡◌, ap, arith}
use Rattle.notation_buffers.specs.Laws.PageLaws.{puts_same}
use Rattle.writer_layout.specs.Code.Layouts.{chain_records}
use Rattle.writer_layout.specs.Laws.ChainLaws.{chain_none, chain_more}
use Rattle.writer_layout.proofs.layouts.put_chain.Goals as goal

pub loop-p-init : goal.loop-p-init
loop-p-init g c = λ records writes. chain_none records _ _ _

pub loop-p-preserved : goal.loop-p-preserved
loop-p-preserved g c = λ records writes.
    chain_more records _ _ _ c.link_at.ensures (c.loop-p.invariant records writes)
    (writes _ _ _ _ (omega arith) c.put.ensures)

pub returns : goal.returns
returns g c = λ records writes.
    let all : c.loop-p.p ≡ c.args.count = omega arith in
    puts_same (ap (chain_records records c.args.r c.args.count) all) (c.loop-p.invariant records writes)
