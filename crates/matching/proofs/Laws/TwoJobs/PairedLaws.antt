-- What `Paired` says of an order so far holds where an order starts, and every step keeps it.
-- Assumes nothing.
use Rattle.std.specs.Prelude.{◌≡◌, ℕ, false, [], length}
use Rattle.std.proofs.Math.Path.{refl, subst}
use Rattle.std.proofs.Common.{arith}
use Rattle.std.proofs.Math.Option.{some}
use Rattle.notation.specs.Lists.{any, last_or}
use Rattle.notation.specs.Laws.TestLaws.{not_both}
use Rattle.timing.specs.declared.Job.{Job}
use Rattle.timing.specs.Accepted.{Accepted}
use Rattle.timing.specs.Code.IsAccepted.{IsAccepted}
use Rattle.machine.specs.declared.Effect.{Effect}
use Rattle.machine.specs.Ends.{no_flags}
use Rattle.machine.specs.Instructions.{perform}
use Rattle.order.specs.OrderBytes.{task_of_byte, value_of_byte}
use Rattle.order.specs.Code.Invariant.{has_begun, Invariant}
use Rattle.order.specs.Orders.{Turn, next_of, step}
use Rattle.order.specs.States.{State, initial, has_ended, is_active, present_priority}
use Rattle.order.proofs.Laws.StepLaws.{AllowedStep, good_turn, step_says, no_flag}
use Rattle.matching.proofs.Laws.TwoJobs.AdvanceLaws.{step_advances, round_advanced, made_after, under_every}
use Rattle.notation.specs.Laws.ElementLaws.{at_every}
use Rattle.matching.proofs.Laws.TwoJobs.PreemptionLaws.{paired_advance}
use Rattle.matching.proofs.Laws.TwoJobs.Pairings.{Made, made_rounds, last, priority_now, Paired}
use Rattle.matching.proofs.Laws.FromOrder.TurnTraceLaws.{step_after}

-- ---- the start

module _ (a : Accepted) where
  unended : (x : Job) → has_ended (initial a) x ≡ false
  unfolding initial has_ended no_flags
  unended x = no_flag 32 x.0

  idle : (x : Job) → is_active (initial a) x ≡ false
  unfolding initial is_active any
  idle x = refl

  pub none_begun : (x : Job) → has_begun (initial a) x ≡ false
  unfolding has_begun
  none_begun x = rw (unended x) (idle x)

  no_rounds : (x : Job) → length (made_rounds (λ n. []) x) ≡ 0
  unfolding made_rounds
  no_rounds x = refl

  no_last : (x : Job) → last (λ n. []) x ≡ 0
  unfolding last made_rounds last_or
  no_last x = refl

  no_active : length (initial a).active ≡ 0
  unfolding initial
  no_active = refl

  pub paired_initial : Paired a (initial a) 0 (λ x. [])
  paired_initial = record {
    none_yet = λ x is_x lt. absurd (omega arith);
    some_made = λ x is_x begun. absurd (not_both _ begun (none_begun x));
    rising = λ x k is_x lt. absurd (omega (arith, no_rounds x));
    within = λ x is_x. omega (arith, no_last x);
    closed = λ x is_x ended. absurd (not_both _ ended (unended x));
    priorities = λ k d lt. absurd (omega (arith, no_active));
    preceding = λ x y is_x isY h begun. absurd (not_both _ begun (none_begun y));
    both_ended = λ x y is_x isY may endedX endedY. absurd (not_both _ endedX (unended x));
    lower_ended = λ x y is_x isY may ended active. absurd (not_both _ ended (unended x));
    higher_ended = λ x y is_x isY may active ended. absurd (not_both _ ended (unended y));
    both_active = λ x y is_x isY may activeX activeY. absurd (not_both _ activeX (idle x));
  }

-- ---- every step

-- what the turn's job does, with the value v
unfoldable pub turn_effect : Accepted → State → ℕ → Turn → Effect
turn_effect a s v turn = perform (next_of a turn.frame) v turn.frame.local s.store

module _ {a : Accepted} (ok : IsAccepted a) {s : State} (inv : Invariant a s) {r : ℕ} {made : Made} (paired : Paired a s r made) (byte : ℕ)
    {after : State} where
  abbrev Kept : AllowedStep a s byte after → Type 0
  Kept said =
      let effect = turn_effect a s (value_of_byte byte) said.turn in
      Paired a after (round_advanced r effect) (made_after a r (value_of_byte byte) said.turn effect made)

  -- by the step's turn
  pub paired_turn : (said : AllowedStep a s byte after) → Kept said
  unfolding turn_effect
  paired_turn said =
      let turn = said.turn in
      let held = under_every a s (task_of_byte byte) (λ f. priority_now a made f.job ≡ present_priority a f) said.due
      (at_every (λ f. priority_now a made f.job ≡ present_priority a f) turn.frame s.active (λ k lt. paired.priorities k turn.frame lt)) in
      let good = (good_turn ok inv (task_of_byte byte) said.due).0 in
      let effect = perform (next_of a turn.frame) (value_of_byte byte) turn.frame.local s.store in
      subst (λ (t : State). Paired a t (round_advanced r effect) (made_after a r (value_of_byte byte) turn effect made))
      (step_after said)
      (paired_advance ok paired (step_advances ok inv good effect r made (value_of_byte byte) held) inv)

  pub paired_step : (allowed : step a s byte ≡ some after) → Kept (step_says a s byte allowed)
  paired_step allowed = paired_turn (step_says a s byte allowed)
