-- `plan_check::legality::end_store` meets its contract: the end store is what a round after the last would start from.
-- Assumes nothing.
use Rattle.plan_check.specs.Laws.GuessLaws.{end_due}
use Rattle.plan_check.proofs.legality.end_store.Goals as goal

pub returns : goal.returns
returns c = end_due _ _ _ c.due_store.ensures
