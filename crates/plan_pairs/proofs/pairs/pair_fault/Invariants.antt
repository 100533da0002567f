-- `plan_pairs::pairs::pair_fault` meets its contract. The loop's invariant: by any test that the function judges the pairs by, the
-- refusal of all pairs is that of the pairs whose lower job is x or above.
-- Assumes nothing.
use Rattle.std.proofs.Common.{ℕ, Bool}
use Rattle.taskfile.specs.Code.Refusals.{number_of}
use Rattle.plan_marks.specs.Code.PairParts.{JudgesPairs}
use Rattle.plan_pairs.specs.Laws.PairLaws.{FaultFrom}
use Rattle.plan_pairs.proofs.pairs.pair_fault.Given as goal

abbrev pub invariant-loop-x : goal.invariant-loop-x
invariant-loop-x g l =
    (test : ℕ → ℕ → Bool) → JudgesPairs (goal.F-post g l.faulty) test l.k → FaultFrom (number_of l.why) test l.k l.x
