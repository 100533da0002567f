-- `plan_pairs::pair_rules::Marked::order_faulty` meets its contract.
-- Assumes nothing.
use Rattle.std.proofs.Common.{◌≡◌, ap, ◌∙◌, ◌&&◌}
use Rattle.std.proofs.Math.Bool.{not}
use Rattle.plan_marks.specs.Code.PairParts.{before_kept, preempt_kept, order_faulty}
use Rattle.plan_pairs.specs.Laws.RuleLaws.{first_holds, second_decides, not_both}
use Rattle.plan_pairs.proofs.pair_rules.Marked.order_faulty.Goals as goal
use Rattle.plan_pairs.proofs.pair_rules.Marked.order_faulty.Goals.{then-not-before_kept, else-not-before_kept, then-not-before_kept-2, else-not-before_kept-2}

pub returns-then-not-preempt_kept : goal.returns-then-not-preempt_kept
unfolding order_faulty
returns-then-not-preempt_kept c =
    let kept = before_kept c.args.self.now.program.now c.args.self.now.times.now c.args.self.now.marks.now in
    let over = preempt_kept c.args.self.now.program.now c.args.self.now.times.now c.args.self.now.marks.now in
    let x = c.args.x.number in
    let y = c.args.y.number in
    let two : c.if-not-before_kept.value ≡ not (kept x y && kept y x) =
    elim c.if-not-before_kept.branch [
      | then-not-before_kept w ↦
          w.value-is ∙ first_holds _ (ap not c.before_kept.ensures) (ap not w.if-not-before_kept.true) ∙ not_both _ _
      | else-not-before_kept w ↦
          w.value-is
          ∙ second_decides (ap not c.before_kept.ensures) (ap not w.if-not-before_kept.false)
          (ap not w.before_kept-else-not-before_kept.ensures)
          ∙ not_both _ _
    ] in
    let three : c.if-not-before_kept-2.value ≡ not (kept x y && kept y x && over y x) =
    elim c.if-not-before_kept-2.branch [
      | then-not-before_kept-2 w ↦ w.value-is ∙ first_holds _ two w.if-not-before_kept-2.true ∙ not_both _ _
      | else-not-before_kept-2 w ↦
          w.value-is ∙ second_decides two w.if-not-before_kept-2.false (ap not w.preempt_kept.ensures) ∙ not_both _ _
    ] in
    first_holds _ three c.if-not-preempt_kept.true ∙ not_both _ _

pub returns-else-not-preempt_kept : goal.returns-else-not-preempt_kept
unfolding order_faulty
returns-else-not-preempt_kept c =
    let kept = before_kept c.args.self.now.program.now c.args.self.now.times.now c.args.self.now.marks.now in
    let over = preempt_kept c.args.self.now.program.now c.args.self.now.times.now c.args.self.now.marks.now in
    let x = c.args.x.number in
    let y = c.args.y.number in
    let two : c.if-not-before_kept.value ≡ not (kept x y && kept y x) =
    elim c.if-not-before_kept.branch [
      | then-not-before_kept w ↦
          w.value-is ∙ first_holds _ (ap not c.before_kept.ensures) (ap not w.if-not-before_kept.true) ∙ not_both _ _
      | else-not-before_kept w ↦
          w.value-is
          ∙ second_decides (ap not c.before_kept.ensures) (ap not w.if-not-before_kept.false)
          (ap not w.before_kept-else-not-before_kept.ensures)
          ∙ not_both _ _
    ] in
    let three : c.if-not-before_kept-2.value ≡ not (kept x y && kept y x && over y x) =
    elim c.if-not-before_kept-2.branch [
      | then-not-before_kept-2 w ↦ w.value-is ∙ first_holds _ two w.if-not-before_kept-2.true ∙ not_both _ _
      | else-not-before_kept-2 w ↦
          w.value-is ∙ second_decides two w.if-not-before_kept-2.false (ap not w.preempt_kept.ensures) ∙ not_both _ _
    ] in
    second_decides three c.if-not-preempt_kept.false (ap not c.preempt_kept-else-not-preempt_kept.ensures) ∙ not_both _ _
