-- `plan_marks::Marks::none` meets its contract.
-- Assumes nothing.
use Rattle.plan_marks.specs.Code.IsMarks.{none_are}
use Rattle.plan_marks.specs.Code.Marks.{no_mark}
use Rattle.plan_marks.proofs.Marks.none.Goals as goal

pub invariant_of-result : goal.invariant_of-result
invariant_of-result c = record { is_marks = none_are no_mark }
