-- `plan_pairs::pair_rules::Marked::preempt_kept` meets its contract.
-- Assumes nothing.
use Rattle.std.proofs.Common.{ap, ap₂, ◌∙◌}
use Rattle.std.proofs.Math.Bool.{not}
use Rattle.plan_marks.specs.Code.PairParts.{preempt_kept, none_within}
use Rattle.plan_pairs.specs.Laws.RuleLaws.{first_holds, second_decides, first_fails, second_left}
use Rattle.plan_pairs.proofs.pair_rules.Marked.preempt_kept.Goals as goal
use Rattle.plan_pairs.proofs.pair_rules.Marked.preempt_kept.Goals.{then-not-may_preempt, else-not-may_preempt}

pub returns-then-rounds_apart : goal.returns-then-rounds_apart
unfolding preempt_kept
returns-then-rounds_apart c =
    first_holds _
    (elim c.if-not-may_preempt.branch [
      | then-not-may_preempt w ↦
          w.value-is ∙ first_holds _ (ap not c.may_preempt.ensures) (ap not w.if-not-may_preempt.true)
      | else-not-may_preempt w ↦
          w.value-is
          ∙ second_decides (ap not c.may_preempt.ensures) (ap not w.if-not-may_preempt.false) w.rounds_apart.ensures
    ]) c.if-rounds_apart.true

pub returns-then-rounds_nested : goal.returns-then-rounds_nested
unfolding preempt_kept
returns-then-rounds_nested c =
    second_decides
    (elim c.if-not-may_preempt.branch [
      | then-not-may_preempt w ↦
          w.value-is ∙ first_holds _ (ap not c.may_preempt.ensures) (ap not w.if-not-may_preempt.true)
      | else-not-may_preempt w ↦
          w.value-is
          ∙ second_decides (ap not c.may_preempt.ensures) (ap not w.if-not-may_preempt.false) w.rounds_apart.ensures
    ]) c.if-rounds_apart.false
    (second_left c.rounds_nested.ensures c.if-rounds_nested.true
    (c.none_within.ensures
    ∙ ap₂ (none_within c.args.self.now.marks.now c.args.x.number) c.start_round.ensures c.end_round.ensures))

pub returns-else-rounds_nested : goal.returns-else-rounds_nested
unfolding preempt_kept
returns-else-rounds_nested c =
    second_decides
    (elim c.if-not-may_preempt.branch [
      | then-not-may_preempt w ↦
          w.value-is ∙ first_holds _ (ap not c.may_preempt.ensures) (ap not w.if-not-may_preempt.true)
      | else-not-may_preempt w ↦
          w.value-is
          ∙ second_decides (ap not c.may_preempt.ensures) (ap not w.if-not-may_preempt.false) w.rounds_apart.ensures
    ]) c.if-rounds_apart.false (first_fails _ c.rounds_nested.ensures c.if-rounds_nested.false)
