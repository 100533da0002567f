-- `plan_pairs::pair_rules::Marked::base` meets its contract.
-- Assumes nothing.
use mathlib.Core.Path.{refl}
use Rattle.order_states.specs.Code.SnapshotSteps.{owner_in}
use Rattle.plan_pairs.proofs.pair_rules.Marked.base.Goals as goal

pub returns : goal.returns
unfolding owner_in
returns c = rw c.from.ensures refl
