-- `walk_trials::shown_length` meets its contract: the cases of the definition.
-- Assumes nothing.
use Rattle.walk_trials.specs.Laws.OutcomeLaws.{length_found, length_none}
use Rattle.walk_trials.proofs.shown_length.Goals as goal

pub returns-in-Found : goal.returns-in-Found
returns-in-Found c = length_found _ c.in-Found.is

pub returns-in_default : goal.returns-in_default
returns-in_default c = length_none _ c.in_default.not-Found
