-- `plan_pairs::pairs::faulty_with` meets its contract. The loop's invariant: by any test that the function judges the pairs by, some
-- pair of x has the fault if one with a job from y on has.
-- Assumes nothing.
use Rattle.std.proofs.Common.{ℕ, suc, Bool}
use Rattle.plan_marks.specs.Code.PairParts.{JudgesPairs}
use Rattle.plan_pairs.specs.Laws.PairLaws.{SomeFrom}
use Rattle.plan_pairs.proofs.pairs.faulty_with.Given as goal

abbrev pub invariant-loop-y : goal.invariant-loop-y
invariant-loop-y g l =
    (test : ℕ → ℕ → Bool) → JudgesPairs (goal.F-post g l.faulty) test l.k → SomeFrom (test l.x.number) (suc l.x.number) l.k l.y
