-- What `plan_pairs::pairs::pair_fault` owes and the search does not find.
use native.Mathlib.Omega.{arith}
use Rattle.plan_pairs.specs.Laws.PairLaws.{fault_starts, fault_found, fault_later, fault_ends}
use Rattle.plan_pairs.proofs.pairs.pair_fault.Goals as goal

pub loop-x-init : goal.loop-x-init
loop-x-init g c = λ test judged. fault_starts _ _ _

pub returns-then-faulty_with : goal.returns-then-faulty_with
returns-then-faulty_with g c = λ test judged.
    rw (c.at.ensures, c.from.ensures)
    (fault_found _ _ _ _ (c.loop-x.invariant test judged) c.loop-x-test.true (c.faulty_with.ensures test judged)
    c.if-faulty_with.true)

pub loop-x-preserved : goal.loop-x-preserved
loop-x-preserved g c = λ test judged.
    fault_later _ _ _ _ (c.loop-x.invariant test judged) c.loop-x-test.true (c.faulty_with.ensures test judged)
    c.if-faulty_with.false

pub returns : goal.returns
returns g c = λ test judged. fault_ends _ _ _ _ (c.loop-x.invariant test judged) (omega arith)
