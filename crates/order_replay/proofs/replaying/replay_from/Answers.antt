-- What `order_replay::replaying::replay_from` owes and the search does not find.
use Rattle.std.proofs.Common.{◌≡◌, ℕ, length, arith, refl, ap, not, ◌∙◌}
use Rattle.notation.specs.Checked.{Checked, mapped, refused}
use Rattle.machine.specs.declared.End.{End}
use Rattle.order_states.specs.Code.ReplayParts.{end_in}
use Rattle.order_states.proofs.Laws.ReplayLoopLaws.{replay_past, replay_whole, replay_short}
use Rattle.order_replay.specs.Laws.ReachLaws.{left_past, left_refused, left_goes, left_whole}
use Rattle.order_replay.specs.Laws.StepBytes.{byte_refused, byte_goes}
use Rattle.order_replay.proofs.replaying.replay_from.Goals as goal

pub loop-index-init : goal.loop-index-init
loop-index-init c = (refl, refl)

pub returns-then-finished : goal.returns-then-finished
unfolding mapped
returns-then-finished c =
    record {
      came =
          rw c.at.ensures
          (ap (mapped end_in) (replay_past _ _ _ _ _ _ _ _ c.loop-index.invariant.0 c.finished.ensures c.loop-index-test.true
          c.if-finished.true));
      left =
          left_past _ _ _ _ _ _ _ c.loop-index.invariant.1 c.loop-index-test.true c.finished.ensures c.if-finished.true;
    }

pub returns-then-not-step : goal.returns-then-not-step
unfolding mapped
returns-then-not-step c =
    record {
      came =
          rw c.at-then-not-step.ensures
          (ap (mapped end_in) (byte_refused _ _ _ _ _ _ _ _ c.loop-index.invariant.0 c.finished.ensures c.loop-index-test.true
          c.if-finished.false c.step.ensures.allowed c.step.ensures.made (ap not c.if-not-step.true) c.slip.ensures));
      left =
          left_refused _ _ _ _ _ _ _ c.loop-index.invariant.1 c.loop-index-test.true c.finished.ensures
          c.if-finished.false c.step.ensures.allowed c.step.ensures.made (ap not c.if-not-step.true);
    }

pub loop-index-preserved : goal.loop-index-preserved
loop-index-preserved c = (
  byte_goes _ _ _ _ _ _ _ _ c.loop-index.invariant.0 c.finished.ensures c.loop-index-test.true
      c.if-finished.false c.step.ensures.allowed c.step.ensures.made (ap not c.if-not-step.false),
  left_goes _ _ _ _ _ _ _ c.loop-index.invariant.1 c.loop-index-test.true c.finished.ensures
      c.if-finished.false c.step.ensures.allowed c.step.ensures.made (ap not c.if-not-step.false),
)

pub returns-then-finished-2 : goal.returns-then-finished-2
unfolding mapped
returns-then-finished-2 c =
    record {
      came =
          rw c.end_at.ensures
          (ap (mapped end_in) (replay_whole _ _ _ _ _ _ _ _ c.loop-index.invariant.0 c.finished-2.ensures c.loop-index-test.false
          c.if-finished-2.true));
      left = left_whole _ _ _ _ _ _ _ c.loop-index.invariant.1 c.loop-index-test.false;
    }

pub returns-else-finished-2 : goal.returns-else-finished-2
unfolding mapped
returns-else-finished-2 c =
    let all : length c.args.order.now ≡ c.loop-index.index = omega arith in
    let here : ◌≡◌ {A = Checked ℕ End} (refused 31 (length c.args.order.now)) (refused 31 c.loop-index.index) = ap (λ (n : ℕ). refused 31 n) all in
    record {
      came =
          rw c.at-else-finished-2.ensures
          (here
          ∙ ap (mapped end_in) (replay_short _ _ _ _ _ _ _ _ c.loop-index.invariant.0 c.finished-2.ensures c.loop-index-test.false
          c.if-finished-2.false));
      left = left_whole _ _ _ _ _ _ _ c.loop-index.invariant.1 c.loop-index-test.false;
    }
