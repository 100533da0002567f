-- What an array's `put` owes and the search does not find.
use Rattle.std.proofs.Common.{arith}
use Rattle.notation_buffers.specs.Laws.PageLaws.{listed_none, listed_more, listed_whole}
use Rattle.writer_memory.proofs.ArrayInMemory.put.Goals as goal

pub loop-element-init : goal.loop-element-init
loop-element-init g c = listed_none _ _ _

pub loop-element-preserved : goal.loop-element-preserved
loop-element-preserved g c = listed_more _ c.loop-element.invariant (omega arith) c.put.ensures

pub returns : goal.returns
returns g c = listed_whole c.loop-element.invariant (omega arith)
