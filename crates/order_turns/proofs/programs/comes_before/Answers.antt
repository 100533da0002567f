-- `order_turns::programs::comes_before` meets its contract: each end of the test is one case of the definition's.
-- Assumes nothing.
use mathlib.Core.Path.{sym, ◌∙◌}
use borrow.Author.Tests.{le-leb, lt-leb}
use Rattle.notation.specs.Laws.TestLaws.{or_left, or_second, and_first, and_second}
use Rattle.order_states.specs.Code.SnapshotSteps.{owner_in, arrival_in, latest_in, before_in}
use Rattle.order_turns.proofs.programs.comes_before.Goals as goal

pub returns-then-times-first : goal.returns-then-times-first
unfolding before_in latest_in arrival_in
returns-then-times-first c = le-leb _ _ c.if-times-first.true ∙ sym (or_left _ _ (le-leb _ _ c.if-times-first.true))

pub returns-then-times-first-2 : goal.returns-then-times-first-2
unfolding before_in latest_in arrival_in owner_in
returns-then-times-first-2 c = sym (or_second _ _ (lt-leb _ _ c.if-times-first.false) ∙ and_second _ _ (le-leb _ _ c.if-times-first-2.true))

pub returns-else-times-first-2 : goal.returns-else-times-first-2
unfolding before_in latest_in arrival_in
returns-else-times-first-2 c =
    lt-leb _ _ c.if-times-first-2.false
    ∙ sym (or_second _ _ (lt-leb _ _ c.if-times-first.false) ∙ and_first _ _ (lt-leb _ _ c.if-times-first-2.false))
