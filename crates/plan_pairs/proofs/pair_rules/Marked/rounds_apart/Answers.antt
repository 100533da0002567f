-- `plan_pairs::pair_rules::Marked::rounds_apart` meets its contract.
-- Assumes nothing.
use Rattle.plan_marks.specs.Code.PairParts.{rounds_apart}
use Rattle.plan_pairs.specs.Laws.RuleLaws.{first_holds, second_decides}
use Rattle.plan_pairs.proofs.pair_rules.Marked.rounds_apart.Goals as goal

pub returns-then-ends_before : goal.returns-then-ends_before
unfolding rounds_apart
returns-then-ends_before c = first_holds _ c.ends_before.ensures c.if-ends_before.true

pub returns-else-ends_before : goal.returns-else-ends_before
unfolding rounds_apart
returns-else-ends_before c =
    second_decides c.ends_before.ensures c.if-ends_before.false c.ends_before-else-ends_before.ensures
