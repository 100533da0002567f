-- The loop's invariant: the bytes of the first n steps were written.
-- Assumes nothing.
use Rattle.matching_orders.specs.Laws.RowLaws.{RowTo}
use Rattle.matching_orders.proofs.rows.put_job.Given as goal

abbrev pub invariant-loop-n : goal.invariant-loop-n
invariant-loop-n l = RowTo l.program l.marks l.r.0 l.x.number l.n l.initial.page l.page
