-- `plan_check::legality::due_store` meets its contract: the first round starts from the initial store, and each other
-- from what was left in the round before.
-- Assumes nothing.
use Rattle.plan_check.specs.Laws.GuessLaws.{due_first, due_later}
use Rattle.plan_check.proofs.legality.due_store.Goals as goal

pub returns-then-r-eq0 : goal.returns-then-r-eq0
returns-then-r-eq0 c = due_first _ _ _ _ c.if-r-eq0.true

pub returns : goal.returns
returns c =
    due_later _ _ _ _ c.if-r-eq0.false c.requires.1 c.store_of.ensures
