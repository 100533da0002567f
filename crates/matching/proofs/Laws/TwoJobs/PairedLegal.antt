-- Where all jobs of an order have ended, what holds of any two of them makes their steps, as a plan's run, legal: no
-- pair has the faults of 43 and 44, and with the right guesses the plan has no fault at all.
-- Assumes nothing.
use Rattle.std.specs.Prelude.{◌≡◌, ◌⊎◌, ℕ, ◌≤◌, ◌<◌, true, false, ◌&&◌, ◌||◌, get_or, ltb}
use Rattle.std.proofs.Common.{sym, subst, ◌∙◌, arith}
use Rattle.std.proofs.Math.Path.{ap}
use Rattle.std.proofs.Math.Logic.{inl, inr}
use Rattle.std.proofs.Math.Bool.{not}
use mathlib.Core.List.Memᴰ
use mathlib.Core.List.{List, [], map, map-map, Memᴰ}
use Rattle.std.proofs.Math.ListN.{length, get_or-map}
use Rattle.std.proofs.Math.Dec.{leb}
use borrow.Author.Tests.{ltb-true, leb-true, lt-ltb, le-ltb, le-leb, lt-leb}
use Rattle.notation.specs.Checked.{passed, placed_by}
use Rattle.notation.specs.Laws.CheckedLaws.{then_goes, none_faulty}
use Rattle.notation.specs.Laws.ListLaws.{up_to_member, member_each}
use Rattle.notation.specs.Lists.{up_to, only, same, first_or, last_or}
use Rattle.notation.specs.Laws.QuantifierLaws.{at_all, map_length}
use Rattle.notation.specs.Laws.TestLaws.{and_both, and_holds, and_first, and_last, or_left, or_right, test_decided, holds_implied}
use Rattle.timing.specs.declared.Job.{Job}
use Rattle.timing.specs.Accepted.{Accepted}
use Rattle.timing.proofs.Laws.JobNumberLaws.{all_jobs}
use Rattle.timing.specs.Relations.{IsJob, base, before, may_preempt, job_numbers}
use Rattle.order.specs.Code.Invariant.{has_begun}
use Rattle.order.specs.States.{State, has_ended, all_ended}
use Rattle.plan.specs.declared.Round.{Round}
use Rattle.plan.specs.Legality.{Pair, pairs, steps_of, rounds_of, start, end, before_rule, apart, nested, no_step_within}
use Rattle.plan.specs.Legality.{preempt_rule, priority_at, lock_rule, order_fault, lock_fault, due_store, guess_fault}
use Rattle.plan.specs.Legality.{legality}
use Rattle.plan.specs.Runs.{Plan, Step, JobRuns, job_total, round_numbers, first_round, guess}
use Rattle.matching.proofs.Laws.FromPlan.LegalLaws.{round_of, Rules}
use Rattle.matching.proofs.Laws.TwoJobs.Pairings.{Made, made_rounds, first, last, priority_up_to, Clear, Inside, Paired}
use Rattle.matching.proofs.Laws.History.RoundLaws.{member_round}
use Rattle.notation.specs.Laws.ElementLaws.{first_map, last_map, same_refl, member_only}

-- ---- lists and tests

-- a round outside those from s + 1 to e
outside : (s e r : ℕ) → (r ≤ s) ⊎ (e < r) → not (ltb s r && leb r e) ≡ true
outside s e r h =
    elim h [
      | inl low ↦ ap not (and_first (ltb s r) (leb r e) (le-ltb s r low))
      | inr high ↦ ap not (and_last (ltb s r) (leb r e) (lt-leb r e high))
    ]

-- ---- pairs and guesses

jobs_are : (a : Accepted) (x : Job) → Memᴰ x (job_numbers a) → IsJob a x
unfolding job_numbers
jobs_are a x m =
    let found = Memᴰ.of_map (λ (n : ℕ). record { 0 = n }) (up_to (length a.jobs)) m in
    let number = ap (λ (y : Job). y.0) found.2 in
    omega (arith, (up_to_member (length a.jobs) found.0).0 found.1, number)

-- what holds of any two jobs holds of the listed pairs
pairs_all : (a : Accepted) (P : Pair → Type 0)
    → ((x y : Job) → IsJob a x → IsJob a y → P (record { lower = x; higher = y })) → (p : Pair)
    → Memᴰ p (pairs a) → P p
unfolding pairs
pairs_all a P h p m =
    let pairsFrom : Job → List Pair = λ x. map (λ y. record { lower = x; higher = y }) (only (λ y. ltb x.0 y.0) (job_numbers a)) in
    let outer = member_each (job_numbers a) pairsFrom m in
    let x = outer.0 in
    let inner = Memᴰ.of_map (λ y. record { lower = x; higher = y }) (only (λ y. ltb x.0 y.0) (job_numbers a)) outer.2 in
    let kept = member_only (λ (y : Job). ltb x.0 y.0) (job_numbers a) inner.1 in
    subst P inner.2 (h x inner.0 (jobs_are a x outer.1) (jobs_are a inner.0 kept))

guess_right : (a : Accepted) (plan : Plan) (runs : JobRuns) (r : Round) → guess plan r ≡ due_store a runs r
    → guess_fault a plan runs r ≡ false
unfolding guess_fault
guess_right a plan runs r e = ap not (ap (λ (s : List ℕ). same (guess plan r) s) (sym e) ∙ same_refl (guess plan r))

-- ---- two jobs' rules

-- the run has each job's steps as the order made them
abbrev pub SameSteps : Accepted → JobRuns → Made → Type 0
SameSteps a runs made = (x : Job) → IsJob a x → get_or runs.steps x.0 [] ≡ made x.0

module _ (a : Accepted) (runs : JobRuns) (made : Made) (steps : SameSteps a runs made) where
  -- so its rounds, starts, ends and priorities are the order's
  rounds_made : (x : Job) → IsJob a x → map (λ r. r.0) (rounds_of runs x) ≡ made_rounds made x
  unfolding rounds_of made_rounds steps_of
  rounds_made x isJob =
      map-map (λ (r : Round). r.0) (λ (step : Step). step.round) (steps_of runs x)
      ∙ ap (map (λ (step : Step). step.round.0)) (steps x isJob)

  round_made : (x : Job) → IsJob a x → (k : ℕ) → (round_of runs x k).0 ≡ get_or (made_rounds made x) k 0
  round_made x isJob k =
      sym (get_or-map (λ (r : Round). r.0) (rounds_of runs x) k first_round)
      ∙ ap (λ (l : List ℕ). get_or l k 0) (rounds_made x isJob)

  start_made : (x : Job) → IsJob a x → (start runs x).0 ≡ first made x
  unfolding start first
  start_made x isJob = first_map (λ (r : Round). r.0) first_round (rounds_of runs x) ∙ ap (first_or 0) (rounds_made x isJob)

  end_made : (x : Job) → IsJob a x → (end runs x).0 ≡ last made x
  unfolding end last
  end_made x isJob = last_map (λ (r : Round). r.0) first_round (rounds_of runs x) ∙ ap (last_or 0) (rounds_made x isJob)

  priority_made : (x : Job) (r : Round) → IsJob a x → priority_at a runs x r ≡ priority_up_to a made x r.0
  unfolding priority_at priority_up_to steps_of
  priority_made x r isJob =
      ap (λ (l : List Step). last_or (base a x) (map (λ step. step.priority_after) (only (λ step. leb step.round.0 r.0) l))) (steps x isJob)

  -- no step of x within y
  clear_made : (x y : Job) → IsJob a x → IsJob a y → Clear made x y → no_step_within runs x y ≡ true
  unfolding no_step_within
  clear_made x y is_x isY clear =
      let count = map_length (λ (r : Round). r.0) (rounds_of runs x) in
      rw (start_made y isY, end_made y isY)
      (at_all (λ r. not (ltb (first made y) r.0 && leb r.0 (last made y))) (rounds_of runs x) first_round
      (λ k lt. outside (first made y) (last made y) (round_of runs x k).0
      (rw (round_made x is_x k) (clear k (omega (arith, lt, count, ap length (rounds_made x is_x)))))))

  module _ {s : State} {r : ℕ} (paired : Paired a s r made) (done : all_ended a s ≡ true) where
    ended : (x : Job) → IsJob a x → has_ended s x ≡ true
    unfolding all_ended
    ended x isJob = all_jobs a (has_ended s) done x isJob

    begun : (x : Job) → IsJob a x → has_begun s x ≡ true
    unfolding has_begun
    begun x isJob = or_left (has_ended s x) _ (ended x isJob)

    -- a job's first round is not after its last
    first_last : (x : Job) → IsJob a x → first made x ≤ last made x
    unfolding made_rounds
    first_last x isJob =
        let some = paired.some_made x isJob (begun x isJob) in
        let count = map_length (λ (step : Step). step.round.0) (made x.0) in
        let lies = paired.rising x 0 isJob (omega (arith, some, count)) in
        omega (arith, lies.0, lies.1)

    -- "X before Y: end X < start Y."
    before_made : (x y : Job) → IsJob a x → IsJob a y → before_rule a runs x y ≡ true
    unfolding before_rule
    before_made x y is_x isY =
        holds_implied (before a x y) (ltb (end runs x).0 (start runs y).0)
        (λ h. lt-ltb (end runs x).0 (start runs y).0
        (omega (arith, paired.preceding x y is_x isY h (begun y isY), end_made x is_x, start_made y isY)))

    -- "start X ≤ start Y and end Y < end X", with no step of X within Y
    nested_made : (x y : Job) → IsJob a x → IsJob a y → Inside a made y x → last made y < last made x
        → (nested runs y x && no_step_within runs x y) ≡ true
    unfolding nested
    nested_made x y is_x isY inside ends =
        let starts : (start runs x).0 ≤ (start runs y).0 = omega (arith, inside.starts, start_made x is_x, start_made y isY) in
        let closes : (end runs y).0 < (end runs x).0 = omega (arith, ends, end_made x is_x, end_made y isY) in
        and_holds _ _ (and_holds _ _ (le-leb _ _ starts) (lt-ltb _ _ closes)) (clear_made x y is_x isY inside.clear)

    -- "Y may preempt X: either end X < start Y, or end Y < start X, or .."
    lies_made : (x y : Job) → IsJob a x → IsJob a y → may_preempt a y x ≡ true
        → (apart runs x y ≡ true) ⊎ ((nested runs y x && no_step_within runs x y) ≡ true)
    unfolding apart
    lies_made x y is_x isY may =
        elim (paired.both_ended x y is_x isY may (ended x is_x) (ended y isY)) [
          | inl earlier ↦
              let lt : (end runs x).0 < (start runs y).0 = omega (arith, earlier, end_made x is_x, start_made y isY) in
              inl (or_left (ltb (end runs x).0 (start runs y).0) _ (lt-ltb _ _ lt))
          | inr (inl later) ↦
              let lt : (end runs y).0 < (start runs x).0 = omega (arith, later, end_made y isY, start_made x is_x) in
              inl (or_right (ltb (end runs x).0 (start runs y).0) _ (lt-ltb _ _ lt))
          | inr (inr inner) ↦ inr (nested_made x y is_x isY inner.0 inner.1)
        ]

    preempt_made : (x y : Job) → IsJob a x → IsJob a y → preempt_rule a runs y x ≡ true
    unfolding preempt_rule
    preempt_made x y is_x isY =
        elim (test_decided (may_preempt a y x)) [
          | inr never ↦ or_left (not (may_preempt a y x) || apart runs x y) _ (or_left (not (may_preempt a y x)) _ (ap not never))
          | inl may ↦
              elim (lies_made x y is_x isY may) [
                | inl aside ↦ or_left (not (may_preempt a y x) || apart runs x y) _ (or_right (not (may_preempt a y x)) _ aside)
                | inr inside ↦ or_right (not (may_preempt a y x) || apart runs x y) _ inside
              ]
        ]

    -- y nested in x, by the order's rounds
    nested_says : (x y : Job) → IsJob a x → IsJob a y → nested runs y x ≡ true
        → (first made x ≤ first made y) × (last made y < last made x)
    unfolding nested
    nested_says x y is_x isY nest =
        let parts = and_both (leb (start runs x).0 (start runs y).0) _ nest in
        let starts = leb-true (start runs x).0 (start runs y).0 parts.0 in
        let closes = ltb-true (end runs y).0 (end runs x).0 parts.1 in (
          omega (arith, starts, start_made x is_x, start_made y isY),
          omega (arith, closes, end_made x is_x, end_made y isY),
        )

    -- then x's priority was below y's base when y started, since the first two cases are out
    unlocked_made : (x y : Job) → IsJob a x → IsJob a y → may_preempt a y x ≡ true → nested runs y x ≡ true
        → priority_at a runs x (start runs y) < base a y
    unlocked_made x y is_x isY may nest =
        let says = nested_says x y is_x isY nest in
        elim (paired.both_ended x y is_x isY may (ended x is_x) (ended y isY)) [
          | inl earlier ↦ absurd (omega (arith, says.1, earlier, first_last y isY))
          | inr (inl later) ↦ absurd (omega (arith, says.0, later, first_last y isY))
          | inr (inr inner) ↦ rw (priority_made x (start runs y) is_x, start_made y isY) inner.0.unlocked
        ]

    lock_made : (x y : Job) → IsJob a x → IsJob a y → lock_rule a runs y x ≡ true
    unfolding lock_rule
    lock_made x y is_x isY =
        holds_implied (may_preempt a y x && nested runs y x) (ltb (priority_at a runs x (start runs y)) (base a y))
        (λ h. (let parts = and_both (may_preempt a y x) _ h in lt-ltb _ _ (unlocked_made x y is_x isY parts.0 parts.1)))

    -- so any two jobs keep the three rules
    pub paired_rules : (x y : Job) → IsJob a x → IsJob a y → Rules a runs x y
    paired_rules x y is_x isY = (before_made x y is_x isY, preempt_made y x isY is_x, lock_made y x isY is_x)

    -- ---- the plan

    -- two jobs have no fault
    paired_order : (x y : Job) → IsJob a x → IsJob a y → order_fault a runs (record { lower = x; higher = y }) ≡ false
    unfolding order_fault
    paired_order x y is_x isY =
        ap not
        (and_holds (before_rule a runs x y && before_rule a runs y x && preempt_rule a runs y x) _
        (and_holds (before_rule a runs x y && before_rule a runs y x) _
        (and_holds (before_rule a runs x y) _ (before_made x y is_x isY) (before_made y x isY is_x)) (preempt_made x y is_x isY))
        (preempt_made y x isY is_x))

    paired_lock : (x y : Job) → IsJob a x → IsJob a y → lock_fault a runs (record { lower = x; higher = y }) ≡ false
    unfolding lock_fault
    paired_lock x y is_x isY = ap not (and_holds (lock_rule a runs y x) _ (lock_made x y is_x isY) (lock_made y x isY is_x))

    -- so no pair has one
    pub paired_orders : (p : Pair) → Memᴰ p (pairs a) → order_fault a runs p ≡ false
    paired_orders = pairs_all a (λ p. order_fault a runs p ≡ false) paired_order

    pub paired_locks : (p : Pair) → Memᴰ p (pairs a) → lock_fault a runs p ≡ false
    paired_locks = pairs_all a (λ p. lock_fault a runs p ≡ false) paired_lock

    -- and with the right guesses the run is legal
    pub paired_legal : (plan : Plan) → ((r : Round) → r.0 < job_total a → guess plan r ≡ due_store a runs r)
        → legality a plan runs ≡ passed tt
    unfolding legality placed_by
    paired_legal plan right =
        let orders = none_faulty 43 (order_fault a runs) (pairs a) paired_orders in
        let locks = none_faulty 44 (lock_fault a runs) (pairs a) paired_locks in
        let guesses = none_faulty 45 (guess_fault a plan runs) (round_numbers a)
        (λ r m. guess_right a plan runs r (right r (member_round a r m))) in
        then_goes _ (ap (placed_by (λ (p : Pair). p.lower.0)) orders)
        ∙ then_goes _ (ap (placed_by (λ (p : Pair). p.lower.0)) locks)
        ∙ ap (placed_by (λ (r : Round). r.0)) guesses
