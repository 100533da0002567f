-- `plan_marks::rounds::store_of` meets its contract.
-- Assumes nothing.
use Rattle.std.proofs.Common.{◌∙◌}
use mathlib.Core.Path.{refl}
use Rattle.plan_marks.specs.Code.Marks.{store_at}
use Rattle.plan_marks.proofs.rounds.store_of.Goals as goal

pub returns : goal.returns
unfolding store_at
returns c = c.bytes_at.ensures ∙ rw c.from.ensures refl
