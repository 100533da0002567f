-- `plan_runs::job_runs::may_step` meets its contract.
-- Assumes nothing.
use Rattle.std.proofs.Common.{◌∙◌, sym, lt-ltb, le-ltb}
use Rattle.notation.specs.Laws.TestLaws.{and_first, and_second}
use Rattle.plan_runs.specs.Code.StepBounds.{may_step}
use Rattle.plan_runs.proofs.job_runs.may_step.Goals as goal

pub returns-then-base-lt-MOST_TASKS : goal.returns-then-base-lt-MOST_TASKS
unfolding may_step
returns-then-base-lt-MOST_TASKS c = sym (and_second _ _ (lt-ltb _ _ c.if-base-lt-MOST_TASKS.true))

pub returns-else-base-lt-MOST_TASKS : goal.returns-else-base-lt-MOST_TASKS
unfolding may_step
returns-else-base-lt-MOST_TASKS c =
    let high = le-ltb _ _ c.if-base-lt-MOST_TASKS.false in high ∙ sym (and_first _ _ high)
