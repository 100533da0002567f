-- `order_turns::programs::owned_by` meets its contract: a number from 32 on is no job's, and below that the test is the
-- definition's.
-- Assumes nothing.
use mathlib.Core.Path.{sym, ◌∙◌}
use borrow.Author.Tests.{lt-ltb, le-ltb}
use Rattle.notation.specs.Laws.TestLaws.{and_first, and_second}
use Rattle.order_states.specs.Code.SnapshotSteps.{owner_in, owned_by}
use Rattle.order_turns.proofs.programs.owned_by.Goals as goal

pub returns-then-x-lt-MOST_JOBS : goal.returns-then-x-lt-MOST_JOBS
unfolding owned_by owner_in
returns-then-x-lt-MOST_JOBS c = sym (and_second _ _ (lt-ltb _ _ c.if-x-lt-MOST_JOBS.true))

pub returns-else-x-lt-MOST_JOBS : goal.returns-else-x-lt-MOST_JOBS
unfolding owned_by
returns-else-x-lt-MOST_JOBS c =
    le-ltb _ _ c.if-x-lt-MOST_JOBS.false ∙ sym (and_first _ _ (le-ltb _ _ c.if-x-lt-MOST_JOBS.false))
