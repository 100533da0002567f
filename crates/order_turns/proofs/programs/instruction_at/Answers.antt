-- `order_turns::programs::instruction_at` meets its contract: it reads the definition's four bytes.
-- Assumes nothing.
use mathlib.Core.Path.{refl}
use Rattle.order_states.specs.Code.SnapshotSteps.{instruction_in}
use Rattle.order_turns.proofs.programs.instruction_at.Goals as goal

pub returns : goal.returns
unfolding instruction_in
returns c = refl
