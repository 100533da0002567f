-- What is lent holds the table, so the arrays of the traced order are written as its plan, with zeros after it.
-- Assumes nothing.
use Rattle.matching_plans.proofs.Laws.OrderPlanEntryLaws.{plan_written}
use Rattle.matching_plans.proofs.entries.write_plan.Goals as goal

pub returns : goal.returns
returns c =
    plan_written _ _ c.lend-lent.ensures c.requires c.put_store.ensures c.follow.new.self (rw c.none.ensures at c.follow.ensures) c.fill_plan.ensures
