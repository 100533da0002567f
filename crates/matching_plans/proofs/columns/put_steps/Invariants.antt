-- The loop's invariant: the first n steps were written.
-- Assumes nothing.
use Rattle.notation_buffers.specs.Laws.PageLaws.{PartsTo}
use Rattle.matching_plans.proofs.Laws.PutLaws.{step_bytes}
use Rattle.matching_plans.proofs.columns.put_steps.Given as goal

abbrev pub invariant-loop-n : goal.invariant-loop-n
invariant-loop-n l = PartsTo (step_bytes l.marks l.x.number) l.n l.initial.page l.page
