-- The three parts of the plan stand one after the other.
-- Assumes nothing.
use Rattle.matching_plans.proofs.Laws.PutLaws.{plan_put}
use Rattle.matching_plans.proofs.columns.put_plan.Goals as goal

pub returns : goal.returns
returns c = plan_put _ _ _ c.put_byte.ensures c.put_guesses.ensures c.put_jobs.ensures
