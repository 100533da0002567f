-- `walk_trials::ended` meets its contract: the two returns are the two cases of the definition.
-- Assumes nothing.
use Rattle.walk_trials.specs.Laws.OutcomeLaws.{ended_failed, ended_held}
use Rattle.walk_trials.proofs.ended.Goals as goal

pub returns-then-some_failed : goal.returns-then-some_failed
returns-then-some_failed c = ended_failed _ _ c.some_failed.ensures c.if-some_failed.true

pub returns-else-some_failed : goal.returns-else-some_failed
returns-else-some_failed c = ended_held _ c.args.steps c.some_failed.ensures c.if-some_failed.false
