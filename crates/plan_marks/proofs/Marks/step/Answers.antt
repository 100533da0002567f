-- `plan_marks::Marks::step` meets its contract.
-- Assumes nothing.
use mathlib.Core.Path.{refl}
use Rattle.plan_marks.specs.Code.Marks.{step_marked}
use Rattle.plan_marks.proofs.Marks.step.Goals as goal

pub returns : goal.returns
unfolding step_marked
returns c = rw c.step_index.ensures refl
