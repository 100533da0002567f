-- `adqurim_words::run_part` meets its contract, by what a run's part of a walk's answer is.
-- Assumes nothing.
use mathlib.Core.Path.{refl}
use Rattle.adqurim_words.specs.Words.{run_part}
use Rattle.adqurim_words.proofs.run_part.Goals as goal

pub returns : goal.returns
unfolding run_part
returns c = refl
