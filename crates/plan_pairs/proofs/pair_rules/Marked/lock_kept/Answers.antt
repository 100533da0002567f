-- `plan_pairs::pair_rules::Marked::lock_kept` meets its contract.
-- Assumes nothing.
use Rattle.std.proofs.Common.{ap, ap₂, ◌∙◌, ltb}
use Rattle.std.proofs.Math.Bool.{not}
use Rattle.plan_marks.specs.Code.PairParts.{lock_kept, priority_reached}
use Rattle.plan_pairs.specs.Laws.RuleLaws.{first_holds, second_decides, not_both}
use Rattle.plan_pairs.proofs.pair_rules.Marked.lock_kept.Goals as goal
use Rattle.plan_pairs.proofs.pair_rules.Marked.lock_kept.Goals.{then-not-may_preempt, else-not-may_preempt}

pub returns-then-not-rounds_nested : goal.returns-then-not-rounds_nested
unfolding lock_kept
returns-then-not-rounds_nested c =
    first_holds _
    (elim c.if-not-may_preempt.branch [
      | then-not-may_preempt w ↦
          w.value-is ∙ first_holds _ (ap not c.may_preempt.ensures) (ap not w.if-not-may_preempt.true) ∙ not_both _ _
      | else-not-may_preempt w ↦
          w.value-is
          ∙ second_decides (ap not c.may_preempt.ensures) (ap not w.if-not-may_preempt.false)
          (ap not w.rounds_nested.ensures)
          ∙ not_both _ _
    ]) c.if-not-rounds_nested.true

pub returns-else-not-rounds_nested : goal.returns-else-not-rounds_nested
unfolding lock_kept
returns-else-not-rounds_nested c =
    second_decides
    (elim c.if-not-may_preempt.branch [
      | then-not-may_preempt w ↦
          w.value-is ∙ first_holds _ (ap not c.may_preempt.ensures) (ap not w.if-not-may_preempt.true) ∙ not_both _ _
      | else-not-may_preempt w ↦
          w.value-is
          ∙ second_decides (ap not c.may_preempt.ensures) (ap not w.if-not-may_preempt.false)
          (ap not w.rounds_nested.ensures)
          ∙ not_both _ _
    ]) c.if-not-rounds_nested.false
    (ap₂ ltb (c.priority_up_to.ensures ∙ ap (priority_reached _ _ _) c.start_round.ensures) c.base.ensures)
