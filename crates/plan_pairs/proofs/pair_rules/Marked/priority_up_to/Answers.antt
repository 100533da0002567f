-- What `plan_pairs::pair_rules::Marked::priority_up_to` owes and the search does not find.
use native.Mathlib.Omega.{arith}
use mathlib.Core.Path.{◌∙◌, ap}
use Rattle.plan.specs.Runs.{Step}
use Rattle.plan_pairs.specs.Laws.StepLaws.{priority_starts, priority_set}
use Rattle.plan_pairs.specs.Laws.StepLaws.{priority_kept, priority_ends, round_of_step}
use Rattle.plan_pairs.proofs.pair_rules.Marked.priority_up_to.Goals as goal
use Rattle.plan_pairs.proofs.pair_rules.Marked.priority_up_to.Goals.{then-step-r, else-step-r}

pub loop-n-init : goal.loop-n-init
loop-n-init c = priority_starts _ _ _ _ _ c.count-count.ensures.counts

pub loop-n-preserved : goal.loop-n-preserved
loop-n-preserved c =
    let so_far = c.loop-n.invariant in
    let lt = c.loop-n-test.true in
    let read = (round_of_step c.step-step.ensures) in
    elim c.if-step-r.branch [
      | then-step-r w ↦
          priority_set _ _ _ _ _ _ _ so_far lt read w.if-step-r.true (w.priority-is ∙ ap (λ (s : Step). s.priority_after) c.step-step.ensures)
      | else-step-r w ↦ priority_kept _ _ _ _ _ _ _ so_far lt read w.if-step-r.false w.priority-is
    ]

pub returns : goal.returns
returns c = rw (← c.base-priority.ensures) (priority_ends _ _ _ _ _ _ _ c.loop-n.invariant (omega arith))
