-- `matching_plans::Trace::step` meets its contract: each return is one case of the step as it is noted.
-- Assumes nothing.
use Rattle.order_states.proofs.Laws.SnapshotWithinLaws.{due_within}
use Rattle.order_states.specs.Code.StateBytes.{snapshot_in}
use Rattle.order_steps.specs.Laws.StepCases.{task_small}
use Rattle.matching_plans.proofs.Laws.NotingLaws.{noting_idle, noting_beyond, noting_ends, noting_goes}
use Rattle.matching_plans.proofs.Trace.step.Goals as goal

pub returns-in_default : goal.returns-in_default
returns-in_default c = noting_idle _ _ _ c.args.self.now _ (rw c.in_default.is at c.turn_of.ensures.turn)

pub returns-then-next-ge-POSITIONS : goal.returns-then-next-ge-POSITIONS
returns-then-next-ge-POSITIONS c =
    noting_beyond _ _ _ c.args.self.now _ c.in-Some.ensures.turn c.if-next-ge-POSITIONS.true

pub step_with-requires : goal.step_with-requires
step_with-requires c =
    let whole = c.args.self.now.state.whole in
    let bounds = c.in-Some.ensures.bounds in
    let task = task_small _ _ _ _ _ c.in-Some.ensures.turn whole in
    record {
      bounds = (bounds.1, c.if-next-ge-POSITIONS.false, bounds.0, task);
      within = due_within _ _ _ _ _ whole.within c.in-Some.ensures.turn;
    }

pub invariant_of-x : goal.invariant_of-x
invariant_of-x c = record { below = c.in-Some.ensures.bounds.1 }

pub returns-then-self-d : goal.returns-then-self-d
unfolding snapshot_in
returns-then-self-d c =
    noting_ends _ _ _ c.args.self.now _ c.in-Some.ensures.turn c.if-next-ge-POSITIONS.false c.step_with.ensures
    c.note_step.ensures c.if-self-d.true c.next_round.ensures

pub returns-else-self-d : goal.returns-else-self-d
unfolding snapshot_in
returns-else-self-d c =
    noting_goes _ _ _ c.args.self.now _ c.in-Some.ensures.turn c.if-next-ge-POSITIONS.false c.step_with.ensures
    c.note_step.ensures c.if-self-d.false
