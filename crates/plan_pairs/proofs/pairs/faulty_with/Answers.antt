-- What `plan_pairs::pairs::faulty_with` owes and the search does not find.
use native.Mathlib.Omega.{arith}
use Rattle.plan_pairs.specs.Laws.PairLaws.{some_starts, some_found, some_later, some_ends}
use Rattle.plan_pairs.proofs.pairs.faulty_with.Goals as goal

pub loop-y-init : goal.loop-y-init
loop-y-init g c = λ test judged. some_starts _ _ _ (omega arith) _ (omega arith)

pub returns-then-faulty : goal.returns-then-faulty
returns-then-faulty g c = λ test judged.
    some_found _ _ _ _ (c.loop-y.invariant test judged) c.loop-y-test.true
    (judged.judges _ _ (omega arith) (omega arith) _ c.faulty.ensures) c.if-faulty.true

pub loop-y-preserved : goal.loop-y-preserved
loop-y-preserved g c = λ test judged.
    some_later _ _ _ _ (c.loop-y.invariant test judged) c.loop-y-test.true
    (judged.judges _ _ (omega arith) (omega arith) _ c.faulty.ensures) c.if-faulty.false

pub returns : goal.returns
returns g c = λ test judged. some_ends _ _ _ _ (c.loop-y.invariant test judged) (omega arith)
