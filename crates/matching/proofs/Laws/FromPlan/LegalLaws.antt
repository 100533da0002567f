-- What the run of a legal plan satisfies: the rules of 43 and 44 for any two jobs, the guesses of 45, and, from the
-- laws of before and may preempt, how any two jobs' rounds lie to each other.
-- Assumes nothing.
use Rattle.std.specs.Prelude.{◌≡◌, ◌⊎◌, ℕ, ◌≤◌, ◌<◌, true, false, not, ◌&&◌, ◌||◌, length, get_or, leb, ltb, eqb}
use Rattle.std.proofs.Common.{sym, ◌∙◌, inl, inr, arith, ltb-true, leb-true, lt-ltb, ne_eqb}
use Rattle.std.proofs.Math.Path.{ap}
use Rattle.std.proofs.Math.Decide.{dec_lt, ℕ_discrete}
use mathlib.Core.List.Memᴰ
use mathlib.Core.List.{map, Memᴰ}
use Rattle.std.proofs.lemmas.Bool.{not-false}
use Rattle.notation.specs.Checked.{passed, none_of, placed_by, ◌>>◌}
use Rattle.notation.specs.Laws.CheckedLaws.{passed_same, bind_passed, then_passed, placed_passed, none_of_passed}
use Rattle.notation.specs.Laws.ListLaws.{up_to_member, each_member}
use Rattle.notation.specs.Lists.{all, only}
use Rattle.notation.specs.Laws.QuantifierLaws.{at_all}
use Rattle.notation.specs.Laws.TestLaws.{and_both, or_either, and_holds, implied_holds}
use Rattle.timing.specs.declared.Job.{Job}
use Rattle.timing.specs.Accepted.{Accepted}
use Rattle.timing.specs.Code.IsAccepted.{Timed}
use Rattle.timing.proofs.Laws.RelationLaws.{jobs_related}
use Rattle.timing.specs.Relations.{IsJob, base, before, may_preempt, job_numbers}
use Rattle.plan.specs.declared.Round.{Round}
use Rattle.plan.specs.Legality.{Pair, pairs, rounds_of, start, end, before_rule, apart, nested, no_step_within, preempt_rule}
use Rattle.plan.specs.Legality.{priority_at, lock_rule, order_fault, lock_fault, due_store, guess_fault, legality}
use Rattle.plan.specs.Plans.{Legal, legal_run}
use Rattle.plan.specs.Runs.{Plan, JobRuns, job_total, round_numbers, first_round, guess, run_plan}
use Rattle.matching.proofs.Laws.History.RoundLaws.{round_member}
use Rattle.notation.specs.Laws.ElementLaws.{only_member, same_equal}

-- ---- the pairs of jobs

jobs_member : (a : Accepted) (x : Job) → IsJob a x → Memᴰ x (job_numbers a)
unfolding job_numbers
jobs_member a x isJob = Memᴰ.map (λ (n : ℕ). record { 0 = n }) ((up_to_member (length a.jobs) x.0).1 isJob)

pairs_member : (a : Accepted) (x y : Job) → IsJob a y → x.0 < y.0
    → Memᴰ (record { lower = x; higher = y }) (pairs a)
unfolding pairs
pairs_member a x y isJob lt =
    each_member (λ x. map (λ y. record { lower = x; higher = y }) (only (λ y. ltb x.0 y.0) (job_numbers a)))
    (jobs_member a x (omega arith))
    (Memᴰ.map (λ y. record { lower = x; higher = y }) (only_member (λ y. ltb x.0 y.0) (jobs_member a y isJob) (lt-ltb _ _ lt)))

-- ---- what legality says

-- no pair has the faults of 43 and 44, no round that of 45
pub record Faultless (a : Accepted) (plan : Plan) (runs : JobRuns) : Type 0 where
  pub orders : {p : Pair} → Memᴰ p (pairs a) → order_fault a runs p ≡ false
  pub locks : {p : Pair} → Memᴰ p (pairs a) → lock_fault a runs p ≡ false
  pub guesses : {r : Round} → Memᴰ r (round_numbers a) → guess_fault a plan runs r ≡ false

-- the three rules of x towards y
abbrev pub Rules : Accepted → JobRuns → Job → Job → Type 0
Rules a runs x y = (before_rule a runs x y ≡ true) × (preempt_rule a runs x y ≡ true) × (lock_rule a runs x y ≡ true)

module _ (a : Accepted) (plan : Plan) {runs : JobRuns} (legal : Legal a plan runs) where
  -- a legal plan's bytes passed 40 to 42, and its run 43 to 45
  pub legal_run_lem : (run_plan a plan ≡ passed runs) × (legality a plan runs ≡ passed tt)
  unfolding legal_run
  legal_run_lem =
      let first = bind_passed (run_plan a plan) (λ found. ◌>>◌ (legality a plan found) (passed found)) legal in
      let second = then_passed (legality a plan first.0) (passed first.0) first.2 in
      let equal : first.0 ≡ runs = passed_same {P = ℕ} second.2 in
      (first.1 ∙ ap passed equal, ap (legality a plan) (sym equal) ∙ second.1)

  pub legal_faultless : Faultless a plan runs
  unfolding legality
  legal_faultless =
      let first = then_passed (placed_by (λ p. p.lower.0) (none_of 43 (order_fault a runs) (pairs a))) _ legal_run_lem.1 in
      let second = then_passed (placed_by (λ p. p.lower.0) (none_of 44 (lock_fault a runs) (pairs a))) _ first.2 in
      record {
        orders = none_of_passed 43 (order_fault a runs) (placed_passed (λ p. p.lower.0) _ first.1);
        locks = none_of_passed 44 (lock_fault a runs) (placed_passed (λ p. p.lower.0) _ second.1);
        guesses = none_of_passed 45 (guess_fault a plan runs) (placed_passed (λ r. r.0) _ second.2);
      }

  -- a pair's tests ask the rules both ways
  pair_rules : (x y : Job) → IsJob a y → x.0 < y.0 → Rules a runs x y × Rules a runs y x
  unfolding order_fault lock_fault
  pair_rules x y isJob lt =
      let member = pairs_member a x y isJob lt in
      let third = and_both (before_rule a runs x y && before_rule a runs y x && preempt_rule a runs y x) _ (not-false _ (legal_faultless.orders member)) in
      let second = and_both (before_rule a runs x y && before_rule a runs y x) _ third.0 in
      let first = and_both (before_rule a runs x y) _ second.0 in
      let locks = and_both (lock_rule a runs y x) _ (not-false _ (legal_faultless.locks member)) in
      ((first.0, third.1, locks.1), (first.1, second.1, locks.0))

  pub legal_rules : (x y : Job) → IsJob a x → IsJob a y → (x.0 ≡ y.0 → ⊥) → Rules a runs x y
  legal_rules x y is_x isY distinct =
      elim (dec_lt x.0 y.0) [
        | yes below ↦ (pair_rules x y isY below).0
        | no above ↦ (pair_rules y x is_x (omega arith)).1
      ]

  -- each round's guess is the store that it must start from
  pub legal_guesses : (r : Round) → r.0 < job_total a → guess plan r ≡ due_store a runs r
  unfolding guess_fault
  legal_guesses r lt = same_equal _ _ (not-false _ (legal_faultless.guesses (round_member a r lt)))

-- ---- how two jobs' rounds lie to each other

-- the round of a job's step k
abbrev pub round_of : JobRuns → Job → ℕ → Round
round_of runs x k = get_or (rounds_of runs x) k first_round

-- every job has a step, and its rounds lie between its start and its end
pub record Rising (a : Accepted) (runs : JobRuns) : Type 0 where
  pub has_step : (x : Job) → IsJob a x → 0 < length (rounds_of runs x)
  pub between : (x : Job) → IsJob a x → (k : ℕ) → k < length (rounds_of runs x)
      → ((start runs x).0 ≤ (round_of runs x k).0) × ((round_of runs x k).0 ≤ (end runs x).0)

pub start_end : {a : Accepted} {runs : JobRuns} → Rising a runs → (x : Job) → IsJob a x
    → (start runs x).0 ≤ (end runs x).0
start_end rising x isJob = omega (arith, rising.between x isJob 0 (rising.has_step x isJob))

-- Y is nested in X, with all that the third case asks
pub record Within (a : Accepted) (runs : JobRuns) (y x : Job) : Type 0 where
  pub preempts : may_preempt a y x ≡ true
  pub starts : (start runs x).0 ≤ (start runs y).0
  pub ends : (end runs y).0 < (end runs x).0
  pub clear : no_step_within runs x y ≡ true
  pub unlocked : priority_at a runs x (start runs y) < base a y

-- x ends before y starts, or y ends before x starts, or y is nested in x
abbrev pub Lying : Accepted → JobRuns → Job → Job → Type 0
Lying a runs x y = ((end runs x).0 < (start runs y).0) ⊎ ((end runs y).0 < (start runs x).0) ⊎ Within a runs y x

-- "X before Y: end X < start Y."
before_ends : (a : Accepted) (runs : JobRuns) (x y : Job) → before_rule a runs x y ≡ true → before a x y ≡ true
    → (end runs x).0 < (start runs y).0
unfolding before_rule
before_ends a runs x y rule h = ltb-true _ _ (implied_holds (before a x y) _ rule h)

-- the third case, with its lock clause
nested_within : (a : Accepted) (runs : JobRuns) (y x : Job) → may_preempt a y x ≡ true → nested runs y x ≡ true
    → no_step_within runs x y ≡ true → lock_rule a runs y x ≡ true → Within a runs y x
unfolding lock_rule nested
nested_within a runs y x may nest clear rule =
    let parts = and_both (leb (start runs x).0 (start runs y).0) _ nest in
    record {
      preempts = may;
      starts = leb-true _ _ parts.0;
      ends = ltb-true _ _ parts.1;
      clear = clear;
      unlocked = ltb-true _ _ (implied_holds (may_preempt a y x && nested runs y x) _ rule (and_holds _ _ may nest));
    }

-- "Y may preempt X: either end X < start Y, or end Y < start X, or .."
preempt_lies : (a : Accepted) (runs : JobRuns) (y x : Job) → preempt_rule a runs y x ≡ true → lock_rule a runs y x ≡ true
    → may_preempt a y x ≡ true → Lying a runs x y
unfolding preempt_rule apart
preempt_lies a runs y x rule lock may =
    elim (or_either (not (may_preempt a y x) || apart runs x y) _ rule) [
      | inl aside ↦
          elim (or_either (ltb (end runs x).0 (start runs y).0) _ (implied_holds (may_preempt a y x) _ aside may)) [
            | inl e ↦ inl (ltb-true _ _ e)
            | inr e ↦ inr (inl (ltb-true _ _ e))
          ]
      | inr inside ↦
          let parts = and_both (nested runs y x) _ inside in
          inr (inr (nested_within a runs y x may parts.0 parts.1 lock))
    ]

-- a round of y is not the end of x
lying_none : {a : Accepted} {runs : JobRuns} → Rising a runs → (x y : Job) → IsJob a x → IsJob a y → Lying a runs x y
    → (k : ℕ) → k < length (rounds_of runs y) → (round_of runs y k).0 ≡ (end runs x).0 → ⊥
lying_none rising x y is_x isY lies k lt =
    let round = rising.between y isY k lt in
    elim lies [
      | inl first ↦ λ e. omega arith
      | inr (inl second) ↦ λ e. omega (arith, start_end rising x is_x)
      | inr (inr third) ↦ λ e. omega (arith, third.ends)
    ]

lying_differ : {a : Accepted} {runs : JobRuns} → Rising a runs → (x y : Job) → IsJob a x → IsJob a y → Lying a runs x y
    → (end runs x).0 ≡ (end runs y).0 → ⊥
lying_differ rising x y is_x isY lies e =
    elim lies [
      | inl first ↦ omega (arith, start_end rising y isY)
      | inr (inl second) ↦ omega (arith, start_end rising x is_x)
      | inr (inr third) ↦ omega (arith, third.ends)
    ]

module _ (a : Accepted) (plan : Plan) {runs : JobRuns} (timed : Timed a) (legal : Legal a plan runs) where
  -- the rules of a pair and law 1 leave three cases
  pub rounds_lie : (x y : Job) → IsJob a y → x.0 < y.0 → Lying a runs x y
  rounds_lie x y isJob lt =
      let rules = pair_rules a plan legal x y isJob lt in
      elim (jobs_related timed x y lt isJob) [
        | inl first ↦ inl (before_ends a runs x y rules.0.0 first)
        | inr (inl second) ↦ inr (inl (before_ends a runs y x rules.1.0 second))
        | inr (inr third) ↦ preempt_lies a runs y x rules.1.1 rules.1.2 third
      ]

  module _ (rising : Rising a runs) where
    -- two jobs' ends differ
    pub ends_differ : (x y : Job) → IsJob a x → IsJob a y → (x.0 ≡ y.0 → ⊥) → (end runs x).0 ≡ (end runs y).0 → ⊥
    ends_differ x y is_x isY distinct e =
        elim (dec_lt x.0 y.0) [
          | yes below ↦ lying_differ rising x y is_x isY (rounds_lie x y isY below) e
          | no above ↦ lying_differ rising y x isY is_x (rounds_lie y x is_x (omega arith)) (sym e)
        ]

    -- so a job is known by its end
    pub ends_tell : (x y : Job) → IsJob a x → IsJob a y → (end runs x).0 ≡ (end runs y).0 → x.0 ≡ y.0
    ends_tell x y is_x isY e =
        elim (ℕ_discrete x.0 y.0) [
          | yes equal ↦ equal
          | no distinct ↦ absurd (ends_differ x y is_x isY distinct e)
        ]

    -- in the round where x ends, no job above x in number has a step
    pub above_none_at : (x y : Job) → IsJob a y → x.0 < y.0 → (k : ℕ) → k < length (rounds_of runs y)
        → (round_of runs y k).0 ≡ (end runs x).0 → ⊥
    above_none_at x y isJob lt = lying_none rising x y (omega arith) isJob (rounds_lie x y isJob lt)

    pub above_none : (x y : Job) → IsJob a y → x.0 < y.0
        → all (λ r. not (eqb r.0 (end runs x).0)) (rounds_of runs y) ≡ true
    above_none x y isJob lt =
        at_all (λ r. not (eqb r.0 (end runs x).0)) (rounds_of runs y) first_round
        (λ k below. ap not (ne_eqb _ _ (above_none_at x y isJob lt k below)))
