-- `plan_pairs::pair_rules::Marked::lock_faulty` meets its contract.
-- Assumes nothing.
use Rattle.std.proofs.Common.{ap, ◌∙◌}
use Rattle.std.proofs.Math.Bool.{not}
use Rattle.plan_marks.specs.Code.PairParts.{lock_faulty}
use Rattle.plan_pairs.specs.Laws.RuleLaws.{first_holds, second_decides, not_both}
use Rattle.plan_pairs.proofs.pair_rules.Marked.lock_faulty.Goals as goal

pub returns-then-not-lock_kept : goal.returns-then-not-lock_kept
unfolding lock_faulty
returns-then-not-lock_kept c =
    first_holds _ (ap not c.lock_kept.ensures) (ap not c.if-not-lock_kept.true) ∙ not_both _ _

pub returns-else-not-lock_kept : goal.returns-else-not-lock_kept
unfolding lock_faulty
returns-else-not-lock_kept c =
    second_decides (ap not c.lock_kept.ensures) (ap not c.if-not-lock_kept.false)
    (ap not c.lock_kept-else-not-lock_kept.ensures)
    ∙ not_both _ _
