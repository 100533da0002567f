-- `plan_pairs::pair_rules::Marked::before_kept` meets its contract.
-- Assumes nothing.
use Rattle.std.proofs.Common.{ap}
use Rattle.std.proofs.Math.Bool.{not}
use Rattle.plan_marks.specs.Code.PairParts.{before_kept}
use Rattle.plan_pairs.specs.Laws.RuleLaws.{first_holds, second_decides}
use Rattle.plan_pairs.proofs.pair_rules.Marked.before_kept.Goals as goal

pub returns-then-not-comes_before : goal.returns-then-not-comes_before
unfolding before_kept
returns-then-not-comes_before c =
    first_holds _ (ap not c.comes_before.ensures) (ap not c.if-not-comes_before.true)

pub returns-else-not-comes_before : goal.returns-else-not-comes_before
unfolding before_kept
returns-else-not-comes_before c =
    second_decides (ap not c.comes_before.ensures) (ap not c.if-not-comes_before.false) c.ends_before.ensures
