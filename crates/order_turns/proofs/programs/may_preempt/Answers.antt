-- `order_turns::programs::may_preempt` meets its contract: each end of the test is one case of the definition's.
-- Assumes nothing.
use Rattle.std.proofs.Common.{sym, ◌∙◌}
use borrow.Author.Tests.{lt-ltb, le-ltb}
use Rattle.notation.specs.Laws.TestLaws.{and_first, and_second}
use Rattle.order_states.specs.Code.SnapshotSteps.{owner_in, arrival_in, latest_in, preempts_in}
use Rattle.order_turns.proofs.programs.may_preempt.Goals as goal
use Rattle.order_turns.proofs.programs.may_preempt.Goals.{then-program-lower, else-program-lower}

pub returns-then-times-lower : goal.returns-then-times-lower
unfolding preempts_in owner_in arrival_in latest_in
returns-then-times-lower c = elim c.if-program-lower.branch [
  | then-program-lower w ↦
      sym (and_second _ _ (and_second _ _ (lt-ltb _ _ w.if-program-lower.true) ∙ sym w.value-is ∙ c.if-times-lower.true))
  | else-program-lower w ↦
      sym (and_second _ _
      (and_first _ _ (le-ltb _ _ w.if-program-lower.false) ∙ sym (le-ltb _ _ w.if-program-lower.false)
      ∙ sym w.value-is ∙ c.if-times-lower.true))
]

pub returns-else-times-lower : goal.returns-else-times-lower
unfolding preempts_in owner_in arrival_in latest_in
returns-else-times-lower c = c.if-times-lower.false ∙ elim c.if-program-lower.branch [
  | then-program-lower w ↦
      sym (and_first _ _ (and_second _ _ (lt-ltb _ _ w.if-program-lower.true) ∙ sym w.value-is ∙ c.if-times-lower.false))
  | else-program-lower w ↦ sym (and_first _ _ (and_first _ _ (le-ltb _ _ w.if-program-lower.false)))
]
