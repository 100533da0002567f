-- What `plan_marks::Marks::count` owes and the search does not find.
use mathlib.Core.Path.{refl}
use Rattle.plan_marks.specs.Code.Marks.{step_count}
use Rattle.plan_marks.proofs.Marks.count.Goals as goal

pub returns-clause-counts : goal.returns-clause-counts
unfolding step_count
returns-clause-counts c = rw c.from.ensures refl
