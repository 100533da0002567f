-- The loop's invariant: the bytes of the jobs below x were written.
-- Assumes nothing.
use Rattle.notation_buffers.specs.Laws.PageLaws.{PartsTo}
use Rattle.matching_orders.specs.Code.Rows.{job_row}
use Rattle.matching_orders.proofs.rows.put_round.Given as goal

abbrev pub invariant-loop-x : goal.invariant-loop-x
invariant-loop-x l = PartsTo (job_row l.program l.marks l.r.0) l.x l.initial.page l.page
