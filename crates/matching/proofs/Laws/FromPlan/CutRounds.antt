-- The round of a cut of a legal plan's run is the number of jobs that have ended there: those with no step left are
-- those whose end is in an earlier round, and in each round one job ends.
-- Assumes nothing.
use Rattle.std.specs.Prelude.{◌≡◌, refl, ℕ, zero, suc, ◌+◌, ◌<◌, Bool, true, get_or, ltb}
use Rattle.std.proofs.Math.Path.{sym, ap}
use Rattle.std.proofs.Common.{◌∙◌, inl, inr, arith, lt-ltb, le-ltb}
use Rattle.std.proofs.Math.Decide.{dec_lt, ℕ_discrete}
use mathlib.Core.List.{List, [], ◌∷◌, ◌++◌, map, append-nil}
use Rattle.std.proofs.Math.ListN.{length}
use Rattle.notation.specs.Laws.ListLaws.{from_snoc, map_snoc}
use Rattle.notation.specs.Lists.{from, only, last_or}
use Rattle.notation.specs.Laws.QuantifierLaws.{map_length}
use Rattle.notation.specs.Laws.TestLaws.{test_decided}
use Rattle.timing.specs.declared.Job.{Job}
use Rattle.timing.specs.Accepted.{Accepted}
use Rattle.timing.specs.Code.IsAccepted.{IsAccepted}
use Rattle.order.specs.States.{State, has_ended}
use Rattle.plan.specs.declared.Round.{Round}
use Rattle.plan.specs.Legality.{rounds_of, end}
use Rattle.plan.specs.Plans.{Legal}
use Rattle.plan.specs.Runs.{Plan, JobRuns, job_total, first_round}
use Rattle.matching.proofs.Laws.History.ColumnLaws.{round_elsewhere}
use Rattle.notation.specs.Laws.CountLaws.{counted, count_below, only_last}
use Rattle.matching.proofs.Laws.FromPlan.Cuts.{Cut}
use Rattle.matching.proofs.Laws.History.Histories.{Mark, Marks, job, round, in_round}
use Rattle.matching.proofs.Laws.FromPlan.LegalLaws.{legal_run_lem, above_none_at}
use Rattle.matching.proofs.Laws.History.PlanReading.{mark_of, marks_of}
use Rattle.matching.proofs.Laws.FromPlan.PlanRounds.{none_left, rounds_marked, next_place, next_round}
use Rattle.matching.proofs.Laws.History.PlanReadingLaws.{numbers_from}
use Rattle.matching.proofs.Laws.FromPlan.RunLaws.{run_steps, run_below, end_round, legal_rising, ends_below}
use Rattle.order.specs.OrderSteps.{ended_count}

-- ---- counting

-- the jobs below k of which a test holds, where it says that their value is below r
jobs_counted : (test : Job → Bool) (f : ℕ → ℕ) (r k : ℕ) → ((y : ℕ) → y < k → test (job y) ≡ ltb (f y) r)
    → length (only test (map job (from 0 k))) ≡ count_below f r k
unfolding only count_below from
jobs_counted test f r zero same = refl
jobs_counted test f r (suc k) same =
    let place : 0 + k ≡ k = omega arith in
    ap (λ (xs : List ℕ). length (only test (map job xs))) (from_snoc 0 k ∙ ap (λ (n : ℕ). from 0 k ++ (n ∷ [])) place)
    ∙ ap (λ (xs : List Job). length (only test xs)) (map_snoc job (from 0 k) k)
    ∙ only_last test (map job (from 0 k)) (job k)
    ∙ ap (λ (b : Bool). counted b (length (only test (map job (from 0 k))))) (same k (omega arith))
    ∙ ap (counted (ltb (f k) r)) (jobs_counted test f r k (λ y lt. same y (omega arith)))

-- ---- the last round of some marks

abbrev rounds_in : List Mark → List Round
rounds_in ms = map (λ m. round m.round) ms

-- the last of some marks is in its round
last_round_lem : (m : Mark) (ms : List Mark) (d : Round) → in_round (last_or d (rounds_in (m ∷ ms))).0 (m ∷ ms) ≡ [] → ⊥
unfolding last_or
last_round_lem m [] d e = (round_elsewhere m.round m [] e).0 refl
last_round_lem m (n ∷ ms) d e = last_round_lem n ms (round m.round) (round_elsewhere _ m (n ∷ ms) e).1

last_some : (ms : List Mark) → 0 < length (rounds_in ms) → in_round (last_or first_round (rounds_in ms)).0 ms ≡ [] → ⊥
last_some [] lt e = omega arith
last_some (m ∷ ms) lt e = last_round_lem m ms first_round e

module _ {a : Accepted} (ok : IsAccepted a) (plan : Plan) {runs : JobRuns} (legal : Legal a plan runs) {now : Marks} {x : ℕ} {m : Mark}
    (cut : Cut (marks_of runs) now x m) where
  -- the job that is next is one of the plan's
  is_x : x < job_total a
  unfolding marks_of
  is_x = omega (arith, cut.known, map_length (map mark_of) runs.steps, run_steps a plan (legal_run_lem a plan legal).0)

  -- a job's rounds: those made, then those left
  rounds_cut : (y : ℕ) → rounds_of runs (job y) ≡ rounds_in (get_or now y [] ++ cut.rest y)
  rounds_cut y = rounds_marked runs y ∙ ap rounds_in (cut.whole y)

  -- those of a job with no step left are made
  rounds_made : (y : ℕ) → cut.rest y ≡ [] → rounds_of runs (job y) ≡ rounds_in (get_or now y [])
  rounds_made y none = rounds_cut y ∙ ap (λ (ms : List Mark). rounds_in (get_or now y [] ++ ms)) none ∙ ap rounds_in (append-nil (get_or now y []))

  -- the next step's place among those of its job
  abbrev place : ℕ
  place = length (get_or now x [])

  -- it is one of the plan's
  pub round_below : m.round < job_total a
  unfolding job_total job
  round_below = omega (arith, next_round runs cut, run_below a plan (legal_run_lem a plan legal).0 (job x) is_x place (next_place runs cut))

  -- the last step of a job with none left is made
  last_made : (y : ℕ) → y < job_total a → cut.rest y ≡ [] → in_round (end_round runs y) (get_or now y []) ≡ [] → ⊥
  unfolding job_total job end
  last_made y isY none e =
      let rounds = rounds_made y none in
      last_some (get_or now y []) (omega (arith, ap length rounds, (legal_rising a plan legal).has_step (job y) isY))
      (ap (λ (rs : List Round). in_round (last_or first_round rs).0 (get_or now y [])) (sym rounds) ∙ e)

  -- that is not in the cut's round: the job is not x, no job above y has a step where y ends, and none above x has
  -- made one there
  end_apart : (y : ℕ) → y < job_total a → cut.rest y ≡ [] → end_round runs y ≡ m.round → ⊥
  unfolding job_total job
  end_apart y isY none same =
      elim (dec_lt y x) [
        | yes below ↦
            above_none_at a plan ok.is_timed legal (legal_rising a plan legal) (job y) (job x) is_x below place (next_place runs cut)
            (next_round runs cut ∙ sym same)
        | no other ↦
            elim (ℕ_discrete x y) [
              | yes equal ↦ omega (arith, ap length (sym cut.next ∙ ap cut.rest equal ∙ none))
              | no apart ↦
                  last_made y isY none (ap (λ (q : ℕ). in_round q (get_or now y [])) same ∙ cut.row_made y (omega arith))
            ]
      ]

  -- so a job with no step left ended in an earlier round
  pub ended_earlier : (y : ℕ) → y < job_total a → cut.rest y ≡ [] → end_round runs y < m.round
  ended_earlier y isY none =
      elim (dec_lt m.round (end_round runs y)) [
        | yes later ↦ absurd (last_made y isY none (cut.made y (end_round runs y) later))
        | no other ↦
            elim (ℕ_discrete (end_round runs y) m.round) [ yes same ↦ absurd (end_apart y isY none same) | no apart ↦ omega arith ]
      ]

  module _ (s : State)
      (ended : (y : ℕ) → y < job_total a → (has_ended s (job y) ≡ true → cut.rest y ≡ []) × (cut.rest y ≡ [] → has_ended s (job y) ≡ true)) where
    -- the jobs that have ended are those whose end is in an earlier round
    ended_below : (y : ℕ) → y < job_total a → has_ended s (job y) ≡ ltb (end_round runs y) m.round
    ended_below y isY =
        elim (dec_lt (end_round runs y) m.round) [
          | yes earlier ↦ (ended y isY).1 (none_left runs cut y earlier) ∙ sym (lt-ltb (end_round runs y) m.round earlier)
          | no other ↦
              elim (test_decided (has_ended s (job y))) [
                | inl e ↦ absurd (other (ended_earlier y isY ((ended y isY).0 e)))
                | inr e ↦ e ∙ sym (le-ltb (end_round runs y) m.round (omega arith))
              ]
        ]

    -- as many as there are earlier rounds
    pub round_counted : ended_count a s ≡ m.round
    unfolding ended_count
    round_counted =
        ap (λ (xs : List Job). length (only (has_ended s) xs)) (numbers_from a (job_total a) refl)
        ∙ jobs_counted (has_ended s) (end_round runs) m.round (job_total a) ended_below
        ∙ ends_below a plan legal ok.is_timed m.round (omega (arith, round_below))
