-- `plan_pairs::pair_rules::start_round` meets its contract.
-- Assumes nothing.
use native.Mathlib.Omega.{arith}
use Rattle.plan_pairs.specs.Laws.StepLaws.{first_none, first_some}
use Rattle.plan_pairs.proofs.pair_rules.start_round.Goals as goal

pub returns-then-counts-from-eq0 : goal.returns-then-counts-from-eq0
returns-then-counts-from-eq0 c = first_none _ _ _ (rw c.from.ensures at c.if-counts-from-eq0.true)

pub returns : goal.returns
returns c =
    first_some _ _ _ (λ none. c.if-counts-from-eq0.false (rw c.from.ensures none)) (omega (arith, c.from-2.ensures))
