-- One step more of an order keeps what `Paired` says of each job's steps, and of a job that comes before another.
-- Assumes nothing.
use Rattle.std.specs.Prelude.{◌≡◌, ◌⊎◌, ℕ, ◌≤◌, ◌<◌, true, List, get_or}
use Rattle.std.proofs.Common.{sym, ap, subst, ◌∙◌, arith}
use Rattle.std.proofs.Math.Logic.{inl, inr}
use Rattle.std.proofs.Math.Decide.{ℕ_discrete}
use Rattle.std.proofs.Math.Bool.{false}
use Rattle.std.proofs.Math.ListN.{length}
use Rattle.notation.specs.Laws.PairLaws.{every_at}
use Rattle.notation.specs.Laws.TestLaws.{or_left, or_right, or_second, test_decided, not_both}
use Rattle.timing.specs.declared.Job.{Job}
use Rattle.timing.specs.Accepted.{Accepted}
use Rattle.timing.proofs.Laws.RelationLaws.{before_says}
use Rattle.timing.specs.Relations.{IsJob, before}
use Rattle.order.specs.declared.Frame.{Frame}
use Rattle.order.specs.Code.Invariant.{has_begun, Invariant}
use Rattle.order.specs.States.{State, has_ended, is_active, present_priority}
use Rattle.plan.specs.Runs.{Step}
use Rattle.matching.proofs.Laws.TwoJobs.AdvanceLaws.{Advance, by_job}
use Rattle.notation.specs.Laws.ElementLaws.{length_snoc, snoc_at}
use Rattle.matching.proofs.Laws.TwoJobs.MadeLaws.{rounds_same, first_same, last_same, rounds_length, rounds_more, last_more, first_more, first_started}
use Rattle.matching.proofs.Laws.TwoJobs.Pairings.{Made, made_rounds, first, last, priority_now, Paired}

-- job x, which had begun, goes on
pub record Goes (s : State) (made later : Made) (x : Job) : Type 0 where
  pub active : is_active s x ≡ true
  pub some_there : 0 < length (made x.0)
  pub first_stays : first later x ≡ first made x

module _ {a : Accepted} {s now : State} {r next : ℕ} {made later : Made} {x : Job} {st : Step} (paired : Paired a s r made)
    (one : Advance a s now r next made later x st) where
  abbrev Other : Job → Type 0
  Other y = y.0 ≡ x.0 → ⊥

  -- ---- rounds

  pub last_here : last later x ≡ r
  last_here = last_more made later x st one.more_here ∙ one.round

  pub first_other : (y : Job) → Other y → first later y ≡ first made y
  first_other y apart = first_same made later y (one.more_other y apart)

  pub last_other : (y : Job) → Other y → last later y ≡ last made y
  last_other y apart = last_same made later y (one.more_other y apart)

  -- a job that has begun made its first step no later than its last
  pub first_last : (y : Job) → IsJob a y → has_begun s y ≡ true → first made y ≤ last made y
  first_last y isY begun = omega (arith, paired.rising y 0 isY (omega (arith, rounds_length made y, paired.some_made y isY begun)))

  pub active_begun : (y : Job) → is_active s y ≡ true → has_begun s y ≡ true
  unfolding has_begun
  active_begun y h = or_right (has_ended s y) _ h

  pub ended_begun : (y : Job) → has_ended s y ≡ true → has_begun s y ≡ true
  unfolding has_begun
  ended_begun y h = or_left (has_ended s y) _ h

  -- job x goes on, or it starts in this round
  pub opening : Goes s made later x ⊎ ((length (made_rounds made x) ≡ 0) × (first later x ≡ r))
  unfolding has_begun
  opening =
      elim (test_decided (is_active s x)) [
        | inl active ↦
            let some_there = paired.some_made x one.is_x (active_begun x active) in
            inl (record { active = active; some_there = some_there; first_stays = first_more made later x st one.more_here some_there })
        | inr idle ↦
            let begun : has_begun s x ≡ false = or_second (has_ended s x) (is_active s x) one.unended ∙ idle in
            let none : length (made x.0) ≡ 0 =
            elim (ℕ_discrete (length (made x.0)) 0) [
              | yes e ↦ e
              | no e ↦ absurd (not_both _ (paired.none_yet x one.is_x (omega arith)) begun)
            ] in
            inr (rounds_length made x ∙ none, first_started made later x st one.more_here none ∙ one.round)
      ]

  first_here : first later x ≤ r
  first_here =
      elim opening [
        | inl goes ↦ omega (arith, goes.first_stays, paired.within x one.is_x, first_last x one.is_x (active_begun x goes.active))
        | inr starts ↦ omega (arith, starts.1)
      ]

  -- ---- job by job

  pub none_yet_after : (y : Job) → IsJob a y → 0 < length (later y.0) → has_begun now y ≡ true
  none_yet_after =
      by_job x (λ y. IsJob a y → 0 < length (later y.0) → has_begun now y ≡ true) (λ is_x lt. one.begun_here)
      (λ y apart isY lt. one.begun_stays y apart (paired.none_yet y isY (subst (λ (l : List Step). 0 < length l) (one.more_other y apart) lt)))

  pub some_made_after : (y : Job) → IsJob a y → has_begun now y ≡ true → 0 < length (later y.0)
  some_made_after =
      by_job x (λ y. IsJob a y → has_begun now y ≡ true → 0 < length (later y.0))
      (λ is_x begun. omega (arith, ap (λ (l : List Step). length l) one.more_here, length_snoc (made x.0) st))
      (λ y apart isY begun.
      subst (λ (l : List Step). 0 < length l) (sym (one.more_other y apart)) (paired.some_made y isY (one.begun_before y apart begun)))

  abbrev Rises : Made → Job → ℕ → Type 0
  Rises m y k = (first m y ≤ get_or (made_rounds m y) k 0) × (get_or (made_rounds m y) k 0 ≤ last m y)

  -- a round that x had made lies between its first and this one
  rising_old : (k : ℕ) → k < length (made_rounds made x)
      → (first later x ≤ get_or (made_rounds made x) k 0) × (get_or (made_rounds made x) k 0 ≤ r)
  rising_old k lt =
      let old = paired.rising x k one.is_x lt in
      let low : first later x ≤ first made x = elim opening [
        | inl goes ↦ omega (arith, goes.first_stays)
        | inr starts ↦ absurd (omega (arith, starts.0))
      ] in
      (omega arith, omega (arith, paired.within x one.is_x))

  rising_here : (k : ℕ) → k < length (made_rounds later x) → Rises later x k
  rising_here k lt =
      let rounds = rounds_more made later x st one.more_here in
      let at = ap (λ (l : List ℕ). get_or l k 0) rounds in
      elim (snoc_at (made_rounds made x) st.round.0 k 0 (omega (arith, ap (λ (l : List ℕ). length l) rounds))) [
        | inl old ↦
            let within = rising_old k old.0 in
            (omega (arith, old.1), omega (arith, old.1, last_here))
        | inr new ↦ (omega (arith, first_here, one.round), omega (arith, last_here, one.round))
      ]

  rising_other : (y : Job) → Other y → (k : ℕ) → IsJob a y → k < length (made_rounds later y) → Rises later y k
  rising_other y apart k isY lt =
      let rounds = rounds_same made later y (one.more_other y apart) in
      let at = ap (λ (l : List ℕ). get_or l k 0) rounds in
      let old = paired.rising y k isY (omega (arith, ap (λ (l : List ℕ). length l) rounds)) in
      (omega (arith, first_other y apart), omega (arith, last_other y apart))

  pub rising_after : (y : Job) (k : ℕ) → IsJob a y → k < length (made_rounds later y) → Rises later y k
  rising_after =
      by_job x (λ y. (k : ℕ) → IsJob a y → k < length (made_rounds later y) → Rises later y k) (λ k is_x lt. rising_here k lt) rising_other

  pub within_after : (y : Job) → IsJob a y → last later y ≤ next
  within_after =
      by_job x (λ y. IsJob a y → last later y ≤ next) (λ is_x. omega (arith, last_here, one.onward))
      (λ y apart isY. omega (arith, last_other y apart, paired.within y isY, one.onward))

  pub closed_after : (y : Job) → IsJob a y → has_ended now y ≡ true → last later y < next
  closed_after =
      by_job x (λ y. IsJob a y → has_ended now y ≡ true → last later y < next) (λ is_x ended. omega (arith, last_here, one.ended_here ended))
      (λ y apart isY ended. omega (arith, last_other y apart, paired.closed y isY (sym (one.ended_other y apart) ∙ ended), one.onward))

  pub priorities_after : (k : ℕ) (d : Frame) → k < length now.active
      → priority_now a later (get_or now.active k d).job ≡ present_priority a (get_or now.active k d)
  priorities_after k d lt = every_at (λ f. priority_now a later f.job ≡ present_priority a f) now.active k d one.priorities lt

  -- ---- w comes before y

  -- what comes before x has ended, so it made its last step before x's first
  preceding_here : (w : Job) → IsJob a w → Other w → before a w x ≡ true → last later w < first later x
  preceding_here w isW apart h =
      elim opening [
        | inl goes ↦
            omega (arith, last_other w apart, goes.first_stays, paired.preceding w x isW one.is_x h (active_begun x goes.active))
        | inr starts ↦ omega (arith, last_other w apart, starts.1, paired.closed w isW (one.preceded w isW h))
      ]

  -- and x, which has not ended, comes before no job that has begun
  preceding_other : Invariant a s → (w y : Job) → IsJob a w → IsJob a y → Other y → before a w y ≡ true
      → has_begun s y ≡ true → last later w < first later y
  preceding_other inv w y isW isY apart h begun =
      by_job x (λ w. IsJob a w → before a w y ≡ true → last later w < first later y)
      (λ is_x g. absurd (not_both _ (inv.preceded x y is_x isY g begun) one.unended))
      (λ w other isW g. omega (arith, last_other w other, first_other y apart, paired.preceding w y isW isY g begun)) w isW h

  pub preceding_after : Invariant a s → (w y : Job) → IsJob a w → IsJob a y → before a w y ≡ true
      → has_begun now y ≡ true → last later w < first later y
  preceding_after inv w =
      by_job x (λ y. IsJob a w → IsJob a y → before a w y ≡ true → has_begun now y ≡ true → last later w < first later y)
      (λ isW is_x h begun. preceding_here w isW (before_says a w x h).0 h)
      (λ y apart isW isY h begun. preceding_other inv w y isW isY apart h (one.begun_before y apart begun))
