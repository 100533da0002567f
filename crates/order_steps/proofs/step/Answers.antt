-- `order_steps::step` meets its contract: where the turn is due and the value on offer its job steps, and else nothing
-- changes.
-- Assumes nothing.
use Rattle.std.proofs.Common.{ap, not, ◌∙◌}
use Rattle.order_states.proofs.Laws.SnapshotWithinLaws.{due_within}
use Rattle.order_states.proofs.Laws.StepPartLaws.{offered_found}
use Rattle.order_steps.specs.Laws.StepCases.{task_small, step_nobody, step_refused, step_made_lem}
use Rattle.order_steps.proofs.step.Goals as goal

pub returns-in_default : goal.returns-in_default
returns-in_default c =
    let none = step_nobody _ _ _ _ _ (rw c.in_default.is at c.turn_of.ensures.turn) in
    record { allowed = none.0; made = none.1 }

pub offered-allowed-requires : goal.offered-allowed-requires
offered-allowed-requires c = task_small _ _ _ _ _ c.in-Some.ensures.turn c.args.s.now.whole

pub step_with-requires : goal.step_with-requires
step_with-requires c =
    let bounds = c.in-Some.ensures.bounds in
    let inside = offered_found _ _ _ _ c.offered-allowed.ensures (ap not c.if-allowed.true) in
    let task = task_small _ _ _ _ _ c.in-Some.ensures.turn c.args.s.now.whole in
    let own = due_within _ _ _ _ _ c.args.s.now.whole.within c.in-Some.ensures.turn in
    record { bounds = (bounds.1, inside, bounds.0, task); within = own }

pub returns-then-allowed : goal.returns-then-allowed
returns-then-allowed c =
    let put = c.step_with.ensures in
    let made = step_made_lem _ _ _ _ _ c.in-Some.ensures.turn c.offered-allowed.ensures c.if-allowed.true put in
    record { allowed = c.if-allowed.true ∙ made.0; made = made.1 }

pub returns-else-allowed : goal.returns-else-allowed
returns-else-allowed c =
    let none = step_refused _ _ _ _ _ c.in-Some.ensures.turn c.offered-allowed.ensures c.if-allowed.false in
    record { allowed = c.if-allowed.false ∙ none.0; made = none.1 }
