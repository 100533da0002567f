-- `walk_trials::outcome_answer` meets its contract: the three cases of the definition.
-- Assumes nothing.
use mathlib.Core.Path.{◌∙◌}
use native.Mathlib.Omega.{arith}
use Rattle.walk_trials.specs.Laws.OutcomeLaws.{answer_stopped, answer_found, answer_held}
use Rattle.walk_trials.proofs.outcome_answer.Goals as goal

pub returns-in-Stopped : goal.returns-in-Stopped
returns-in-Stopped c = rw c.number.ensures at c.refused_walk.ensures ∙ answer_stopped _ c.in-Stopped.is

pub returns-in-Held : goal.returns-in-Held
returns-in-Held c = answer_held _ c.in-Held.is

pub overflow_cast-result : goal.overflow_cast-result
overflow_cast-result c = let short = rw c.in-Found.is at c.requires in omega (arith, short)

pub returns-in-Found : goal.returns-in-Found
returns-in-Found c = answer_found _ c.in-Found.is
