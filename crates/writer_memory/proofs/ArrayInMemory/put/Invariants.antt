-- An array's `put` meets its contract. The loop's invariant: the elements passed are written.
-- Assumes nothing.
use Rattle.notation_buffers.specs.Laws.PageLaws.{ListedTo}
use Rattle.writer_memory.proofs.ArrayInMemory.put.Given as goal

abbrev pub invariant-loop-element : goal.invariant-loop-element
invariant-loop-element g l = ListedTo g.T.InMemory.bytes l.self l.element-index l.initial.page l.page
