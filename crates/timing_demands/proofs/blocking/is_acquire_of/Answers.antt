-- `timing_demands::blocking::is_acquire_of` meets its contract: the two tests are those of the definition.
-- Assumes nothing.
use Rattle.std.proofs.Common.{arith}
use Rattle.std.proofs.lemmas.Grind.{common_steps}
use Rattle.taskfile.specs.Judgement.{is_acquire}
use Rattle.timing.specs.Blocking.{is_acquire_of}
use Rattle.timing_demands.proofs.blocking.is_acquire_of.Goals as goal

pub returns-then-here-eq-ACQUIRE : goal.returns-then-here-eq-ACQUIRE
unfolding is_acquire_of is_acquire
returns-then-here-eq-ACQUIRE c = grind (arith, common_steps)

pub returns-else-here-eq-ACQUIRE : goal.returns-else-here-eq-ACQUIRE
unfolding is_acquire_of is_acquire
returns-else-here-eq-ACQUIRE c = grind (arith, common_steps)
