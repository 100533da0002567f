-- One step more of an order keeps what `Paired` says of two jobs of which one may preempt the other, and so all that
-- it says.
-- Assumes nothing.
use Rattle.std.specs.Prelude.{◌≡◌, ◌⊎◌, ℕ, ◌≤◌, ◌<◌, true}
use Rattle.std.proofs.Common.{sym, ◌∙◌, inl, inr, arith}
use Rattle.timing.specs.declared.Job.{Job}
use Rattle.timing.specs.Accepted.{Accepted}
use Rattle.timing.specs.Code.IsAccepted.{IsAccepted}
use Rattle.timing.specs.Relations.{IsJob, base, may_preempt}
use Rattle.order.specs.Code.Invariant.{Invariant}
use Rattle.order.specs.States.{State, has_ended, is_active}
use Rattle.plan.specs.Runs.{Step}
use Rattle.matching.proofs.Laws.TwoJobs.AdvanceLaws.{Advance, by_job, one_way, preempts_apart}
use Rattle.matching.proofs.Laws.TwoJobs.MadeLaws.{now_same, inside_same, inside_more, inside_ended}
use Rattle.matching.proofs.Laws.TwoJobs.PairingLaws.{last_here, first_other, last_other, first_last, active_begun}
use Rattle.matching.proofs.Laws.TwoJobs.PairingLaws.{ended_begun, opening, none_yet_after, some_made_after}
use Rattle.matching.proofs.Laws.TwoJobs.PairingLaws.{rising_after, within_after, closed_after, priorities_after}
use Rattle.matching.proofs.Laws.TwoJobs.PairingLaws.{preceding_after}
use Rattle.matching.proofs.Laws.TwoJobs.Pairings.{Made, first, last, priority_now, Inside, Paired}

module _ {a : Accepted} (ok : IsAccepted a) {s now : State} {r next : ℕ} {made later : Made} {x : Job} {st : Step}
    (paired : Paired a s r made) (one : Advance a s now r next made later x st) where
  abbrev Other : Job → Type 0
  Other y = y.0 ≡ x.0 → ⊥

  was_ended : (y : Job) → Other y → has_ended now y ≡ true → has_ended s y ≡ true
  was_ended y apart h = sym (one.ended_other y apart) ∙ h

  -- two jobs w and y, of which y may preempt w: x is the lower one, or the higher one, or neither
  by_pair : (Q : Job → Job → Type 0)
      → ((y : Job) → Other y → IsJob a y → may_preempt a y x ≡ true → Q x y)
      → ((w : Job) → Other w → IsJob a w → may_preempt a x w ≡ true → Q w x)
      → ((w y : Job) → Other w → Other y → IsJob a w → IsJob a y → may_preempt a y w ≡ true → Q w y)
      → (w y : Job) → IsJob a w → IsJob a y → may_preempt a y w ≡ true → Q w y
  by_pair Q lower higher neither =
      by_job x (λ w. (y : Job) → IsJob a w → IsJob a y → may_preempt a y w ≡ true → Q w y)
      (λ y is_x isY may. lower y (preempts_apart ok x y is_x may) isY may)
      (λ w apart.
      by_job x (λ y. IsJob a w → IsJob a y → may_preempt a y w ≡ true → Q w y) (λ isW is_x may. higher w apart isW may)
      (λ y other isW isY may. neither w y apart other isW isY may))

  -- ---- x and one other job

  -- a job that x may preempt, and that has ended, made its last step before x's first
  after_ended : (w : Job) → Other w → IsJob a w → may_preempt a x w ≡ true → has_ended s w ≡ true
      → last later w < first later x
  after_ended w apart isW may ended =
      let same = last_other paired one w apart in
      elim (opening paired one) [
        | inl goes ↦ omega (arith, goes.first_stays, paired.lower_ended w x isW one.is_x may ended goes.active)
        | inr starts ↦ omega (arith, starts.1, paired.closed w isW ended)
      ]

  -- a job that may preempt x, and that has ended, made its last step before x's first or lies inside x
  around_ended : (y : Job) → Other y → IsJob a y → may_preempt a y x ≡ true → has_ended s y ≡ true
      → (last later y < first later x) ⊎ Inside a later y x
  around_ended y apart isY may ended =
      let same = last_other paired one y apart in
      let closed = paired.closed y isY ended in
      elim (opening paired one) [
        | inr starts ↦ inl (omega (arith, starts.1))
        | inl goes ↦
            elim (paired.higher_ended x y one.is_x isY may goes.active ended) [
              | inl before-it ↦ inl (omega (arith, goes.first_stays))
              | inr inside ↦
                  let rises = first_last paired one y isY (ended_begun paired one y ended) in
                  inr (inside_more a made later y x st (one.more_other y apart) one.more_here goes.some_there rises (omega (arith, one.round)) inside)
            ]
      ]

  -- a job that may preempt x is not active
  none_above : (y : Job) → Other y → IsJob a y → may_preempt a y x ≡ true → is_active s y ≡ true → ⊥
  none_above y apart isY may active = one_way ok x y one.is_x isY may (one.preempts y apart active)

  abbrev Stacked : Made → Job → Job → Type 0
  Stacked m w y = (first m w ≤ first m y) × (last m w ≤ first m y) × (priority_now a m w < base a y)

  -- an active job that x may preempt made no step after x's first, and its priority is below x's base
  below_active : (w : Job) → Other w → IsJob a w → may_preempt a x w ≡ true → is_active s w ≡ true → Stacked later w x
  below_active w apart isW may active =
      let firstW = first_other paired one w apart in
      let lastW = last_other paired one w apart in
      let above : priority_now a later w < base a x =
      omega (arith, now_same made later w (one.more_other w apart) a, one.above w apart active) in
      elim (opening paired one) [
        | inl goes ↦
            let old = paired.both_active w x isW one.is_x may active goes.active in
            (omega (arith, goes.first_stays), omega (arith, goes.first_stays), above)
        | inr starts ↦
            let rises = first_last paired one w isW (active_begun paired one w active) in
            let within = paired.within w isW in
            (omega (arith, starts.1), omega (arith, starts.1), above)
      ]

  -- ---- y may preempt w

  abbrev Lying : Made → Job → Job → Type 0
  Lying m w y = (last m w < first m y) ⊎ (last m y < first m w) ⊎ (Inside a m y w × (last m y < last m w))

  lying_lower : (y : Job) → Other y → IsJob a y → may_preempt a y x ≡ true → has_ended s y ≡ true → Lying later x y
  lying_lower y apart isY may ended =
      elim (around_ended y apart isY may ended) [
        | inl before-it ↦ inr (inl before-it)
        | inr inside ↦
            inr (inr (inside, omega (arith, last_other paired one y apart, last_here paired one, paired.closed y isY ended)))
      ]

  lying_neither : (w y : Job) → Other w → Other y → Lying made w y → Lying later w y
  lying_neither w y apart other lies =
      let firstW = first_other paired one w apart in
      let lastW = last_other paired one w apart in
      let firstY = first_other paired one y other in
      let lastY = last_other paired one y other in
      elim lies [
        | inl h ↦ inl (omega arith)
        | inr (inl h) ↦ inr (inl (omega arith))
        | inr (inr h) ↦ inr (inr (inside_same a made later y w (one.more_other y other) (one.more_other w apart) h.0, omega (arith, h.1)))
      ]

  both_ended_after : (w y : Job) → IsJob a w → IsJob a y → may_preempt a y w ≡ true → has_ended now w ≡ true
      → has_ended now y ≡ true → Lying later w y
  both_ended_after =
      by_pair (λ w y. has_ended now w ≡ true → has_ended now y ≡ true → Lying later w y)
      (λ y apart isY may endedX endedY. lying_lower y apart isY may (was_ended y apart endedY))
      (λ w apart isW may endedW endedX. inl (after_ended w apart isW may (was_ended w apart endedW)))
      (λ w y apart other isW isY may endedW endedY.
      lying_neither w y apart other (paired.both_ended w y isW isY may (was_ended w apart endedW) (was_ended y other endedY)))

  lower_ended_after : (w y : Job) → IsJob a w → IsJob a y → may_preempt a y w ≡ true → has_ended now w ≡ true
      → is_active now y ≡ true → last later w < first later y
  lower_ended_after =
      by_pair (λ w y. has_ended now w ≡ true → is_active now y ≡ true → last later w < first later y)
      (λ y apart isY may ended active. absurd (none_above y apart isY may (one.active_before y apart active)))
      (λ w apart isW may ended active. after_ended w apart isW may (was_ended w apart ended))
      (λ w y apart other isW isY may ended active.
      let old = paired.lower_ended w y isW isY may (was_ended w apart ended) (one.active_before y other active) in
      omega (arith, last_other paired one w apart, first_other paired one y other))

  -- where x ends, it lies inside the active jobs under it
  inside_under : (w : Job) → IsJob a w → Stacked later w x → Inside a later x w
  inside_under w isW h =
      inside_ended a later x w (λ k lt. (rising_after paired one w k isW lt).1) h.0 h.1 h.2

  higher_ended_after : (w y : Job) → IsJob a w → IsJob a y → may_preempt a y w ≡ true → is_active now w ≡ true
      → has_ended now y ≡ true → (last later y < first later w) ⊎ Inside a later y w
  higher_ended_after =
      by_pair (λ w y. is_active now w ≡ true → has_ended now y ≡ true → (last later y < first later w) ⊎ Inside a later y w)
      (λ y apart isY may active ended. around_ended y apart isY may (was_ended y apart ended))
      (λ w apart isW may active ended. inr (inside_under w isW (below_active w apart isW may (one.active_before w apart active))))
      (λ w y apart other isW isY may active ended.
      elim (paired.higher_ended w y isW isY may (one.active_before w apart active) (was_ended y other ended)) [
        | inl h ↦ inl (omega (arith, last_other paired one y other, first_other paired one w apart))
        | inr inside ↦ inr (inside_same a made later y w (one.more_other y other) (one.more_other w apart) inside)
      ])

  both_active_after : (w y : Job) → IsJob a w → IsJob a y → may_preempt a y w ≡ true → is_active now w ≡ true
      → is_active now y ≡ true → Stacked later w y
  both_active_after =
      by_pair (λ w y. is_active now w ≡ true → is_active now y ≡ true → Stacked later w y)
      (λ y apart isY may activeX activeY. absurd (none_above y apart isY may (one.active_before y apart activeY)))
      (λ w apart isW may activeW activeX. below_active w apart isW may (one.active_before w apart activeW))
      (λ w y apart other isW isY may activeW activeY.
      let old = paired.both_active w y isW isY may (one.active_before w apart activeW) (one.active_before y other activeY) in
      let firstW = first_other paired one w apart in
      let firstY = first_other paired one y other in (
        omega arith,
        omega (arith, last_other paired one w apart),
        omega (arith, now_same made later w (one.more_other w apart) a),
      ))

  -- ---- all of it

  pub paired_advance : Invariant a s → Paired a now next later
  paired_advance inv = record {
    none_yet = none_yet_after paired one;
    some_made = some_made_after paired one;
    rising = rising_after paired one;
    within = within_after paired one;
    closed = closed_after paired one;
    priorities = priorities_after paired one;
    preceding = preceding_after paired one inv;
    both_ended = both_ended_after;
    lower_ended = lower_ended_after;
    higher_ended = higher_ended_after;
    both_active = both_active_after;
  }
