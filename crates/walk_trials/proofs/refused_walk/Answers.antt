-- `walk_trials::refused_walk` meets its contract: the definition computes to the answer.
-- Assumes nothing.
use mathlib.Core.Path.{refl}
use Rattle.machine.specs.Ends.{no_store, no_flags}
use Rattle.walk.specs.WalkEntry.{refusal}
use Rattle.walk_trials.proofs.refused_walk.Goals as goal

pub returns : goal.returns
unfolding refusal no_store no_flags
returns c = refl
