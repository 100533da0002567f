-- The loop's invariant: the bytes of the rounds below r were written.
-- Assumes nothing.
use Rattle.notation_buffers.specs.Laws.PageLaws.{PartsTo}
use Rattle.matching_orders.specs.Code.Rows.{round_row}
use Rattle.matching_orders.proofs.rows.put_rounds.Given as goal

abbrev pub invariant-loop-r : goal.invariant-loop-r
invariant-loop-r l = PartsTo (round_row l.program l.marks l.k) l.r l.initial.page l.page
