-- What a cut of a legal plan's history says of its jobs' rounds: a job with a step made starts no later than the
-- cut's round, one with a step left ends no earlier, and the jobs that have both lie under the job whose step is
-- next.
-- Assumes nothing.
use Rattle.std.specs.Prelude.{◌≡◌, refl, ◌⊎◌, true, ◌&&◌, take, drop, ltb}
use Rattle.std.proofs.Math.Path.{sym, ap, ap₂}
use Rattle.std.proofs.Common.{subst, ◌∙◌, arith, take-append-drop}
use Rattle.std.proofs.Math.Logic.{inl, inr}
use Prim.Native.Nat.{ℕ, ◌+◌, ◌≤◌, ◌<◌}
use Rattle.std.proofs.Math.Decide.{dec_le, dec_lt, ℕ_discrete}
use Rattle.std.proofs.Math.Bool.{Bool, not}
use mathlib.Core.List.{List, [], ◌∷◌, ◌++◌, map, map-map, append-nil}
use Rattle.std.proofs.Math.ListN.{length, get_or, length-append, get_or-map}
use Rattle.std.proofs.Math.Seq.{take-append_seam, drop-append_seam, get_or-append_seam}
use Rattle.std.proofs.Math.Dec.{leb}
use borrow.Author.Tests.{ltb-true, lt-ltb, le-leb, lt-leb, not-true}
use Rattle.notation.specs.Lists.{only, first_or, last_or}
use Rattle.notation.specs.Laws.PairLaws.{every_imp, every_unmap}
use Rattle.notation.specs.Ordered.{Every}
use Rattle.notation.specs.Laws.QuantifierLaws.{all_at, map_length}
use Rattle.notation.specs.Laws.TestLaws.{and_holds, not_both, implied_holds}
use Rattle.timing.specs.declared.Job.{Job}
use Rattle.timing.specs.Accepted.{Accepted}
use Rattle.timing.specs.Code.IsAccepted.{IsAccepted}
use Rattle.timing.proofs.Laws.RelationLaws.{before_says}
use Rattle.timing.specs.Relations.{IsJob, base, before}
use Rattle.plan.specs.declared.Round.{Round}
use Rattle.plan.specs.Legality.{steps_of, rounds_of, start, end, before_rule, no_step_within, priority_at}
use Rattle.plan.specs.Plans.{Legal}
use Rattle.plan.specs.Runs.{Plan, Step, JobRuns, first_round}
use Rattle.matching.proofs.Laws.History.ColumnLaws.{round_elsewhere}
use Rattle.matching.proofs.Laws.FromPlan.Cuts.{Cut}
use Rattle.matching.proofs.Laws.History.Histories.{Mark, Marks, job, round, in_round}
use Rattle.matching.proofs.Laws.FromPlan.LegalLaws.{round_of, Within, legal_rules, rounds_lie}
use Rattle.notation.specs.Laws.ElementLaws.{only_append, Some, none_or_some, only_all, only_none, cons_some, map_take, map_drop}
use Rattle.matching.proofs.Laws.History.PlanReading.{mark_of, marks_of}
use Rattle.matching.proofs.Laws.FromPlan.RunLaws.{legal_rising}

-- ---- rounds of marks

unfoldable rounds : List Mark → List Round
rounds ms = map (λ m. round m.round) ms

-- marks of which none is in a round with Q are in rounds with P, where each round has one of the two
none_in : (P Q : ℕ → Type 0) → ((q : ℕ) → P q ⊎ Q q) → (ms : List Mark) → ((q : ℕ) → Q q → in_round q ms ≡ [])
    → Every (λ m. P m.round) ms
none_in P Q parts [] none = tt
none_in P Q parts (m ∷ ms) none = (
  elim (parts m.round) [
    | inl good ↦ good
    | inr bad ↦ absurd ((round_elsewhere m.round m ms (none m.round bad)).0 refl)
  ],
  none_in P Q parts ms (λ q bad. (round_elsewhere q m ms (none q bad)).1),
)

low_or_high : (r q : ℕ) → (q ≤ r) ⊎ (r < q)
low_or_high r q = elim (dec_le q r) [ yes low ↦ inl low | no high ↦ inr (omega arith) ]

below_or_from : (r q : ℕ) → (q < r) ⊎ (r ≤ q)
below_or_from r q = elim (dec_lt q r) [ yes low ↦ inl low | no high ↦ inr (omega arith) ]

from_or_below : (r q : ℕ) → (r ≤ q) ⊎ (q < r)
from_or_below r q = elim (dec_le r q) [ yes high ↦ inl high | no low ↦ inr (omega arith) ]

high_or_low : (r q : ℕ) → (r < q) ⊎ (q ≤ r)
high_or_low r q = elim (dec_lt r q) [ yes high ↦ inl high | no low ↦ inr (omega arith) ]

-- what holds of the rounds of all in the front part holds of the first, and of all in the back part of the last
first_has : (P : ℕ → Type 0) (front back : List Mark) → Every (λ m. P m.round) front → Some front
    → P (first_or first_round (rounds (front ++ back))).0
unfolding rounds first_or
first_has P [] back h some = absurd (some refl)
first_has P (m ∷ front) back h some = h.0

last_of : (P : ℕ → Type 0) (d : Round) (ms : List Mark) → P d.0 → Every (λ m. P m.round) ms
    → P (last_or d (rounds ms)).0
unfolding rounds last_or
last_of P d [] p h = p
last_of P d (m ∷ ms) p h = last_of P (round m.round) ms h.0 h.1

last_has : (P : ℕ → Type 0) (d : Round) (front back : List Mark) → Every (λ m. P m.round) back → Some back
    → P (last_or d (rounds (front ++ back))).0
unfolding rounds last_or
last_has P d [] [] h some = absurd (some refl)
last_has P d [] (m ∷ back) h some = last_of P (round m.round) back h.0 h.1
last_has P d (m ∷ front) back h some = last_has P (round m.round) front back h some

-- a job's rounds are those of its marks
pub rounds_marked : (runs : JobRuns) (y : ℕ)
    → rounds_of runs (job y) ≡ map (λ m. round m.round) (get_or (marks_of runs) y [])
unfolding rounds_of steps_of marks_of job mark_of
rounds_marked runs y =
    sym (ap (map (λ (m : Mark). round m.round)) (get_or-map (map mark_of) runs.steps y [])
    ∙ map-map (λ (m : Mark). round m.round) mark_of (get_or runs.steps y []))

-- ---- the rounds of a cut

module _ (runs : JobRuns) {now : Marks} {x : ℕ} {m : Mark} (cut : Cut (marks_of runs) now x m) where
  -- a job's marks are those of its steps
  marks_whole : (y : ℕ) → map mark_of (steps_of runs (job y)) ≡ get_or now y [] ++ cut.rest y
  unfolding marks_of steps_of job
  marks_whole y = sym (get_or-map (map mark_of) runs.steps y []) ∙ cut.whole y

  rounds_whole : (y : ℕ) → rounds_of runs (job y) ≡ rounds (get_or now y [] ++ cut.rest y)
  unfolding rounds
  rounds_whole y = rounds_marked runs y ∙ ap rounds (cut.whole y)

  made_low : (y : ℕ) → Every (λ n. n.round ≤ m.round) (get_or now y [])
  made_low y = none_in (λ q. q ≤ m.round) (λ q. m.round < q) (low_or_high m.round) (get_or now y []) (cut.made y)

  left_high : (y : ℕ) → Every (λ n. m.round ≤ n.round) (cut.rest y)
  left_high y = none_in (λ q. m.round ≤ q) (λ q. q < m.round) (from_or_below m.round) (cut.rest y) (cut.left y)

  made_lower : (y : ℕ) → x < y → Every (λ n. n.round < m.round) (get_or now y [])
  made_lower y lt = none_in (λ q. q < m.round) (λ q. m.round ≤ q) (below_or_from m.round) (get_or now y []) none
    where
      none : (q : ℕ) → m.round ≤ q → in_round q (get_or now y []) ≡ []
      none q le =
          elim (ℕ_discrete m.round q) [
            | yes same ↦ ap (λ (k : ℕ). in_round k (get_or now y [])) (sym same) ∙ cut.row_made y lt
            | no apart ↦ cut.made y q (omega arith)
          ]

  left_higher : (y : ℕ) → y < x → Every (λ n. m.round < n.round) (cut.rest y)
  left_higher y lt = none_in (λ q. m.round < q) (λ q. q ≤ m.round) (high_or_low m.round) (cut.rest y) none
    where
      none : (q : ℕ) → q ≤ m.round → in_round q (cut.rest y) ≡ []
      none q le =
          elim (ℕ_discrete m.round q) [
            | yes same ↦ ap (λ (k : ℕ). in_round k (cut.rest y)) (sym same) ∙ cut.row_left y lt
            | no apart ↦ cut.left y q (omega arith)
          ]

  -- a job with a step made has started, and one above x in an earlier round
  pub has_started : (y : ℕ) → Some (get_or now y []) → (start runs (job y)).0 ≤ m.round
  unfolding start
  has_started y some =
      rw (rounds_whole y) (first_has (λ q. q ≤ m.round) (get_or now y []) (cut.rest y) (made_low y) some)

  pub started_lower : (y : ℕ) → x < y → Some (get_or now y []) → (start runs (job y)).0 < m.round
  unfolding start
  started_lower y lt some =
      rw (rounds_whole y) (first_has (λ q. q < m.round) (get_or now y []) (cut.rest y) (made_lower y lt) some)

  -- a job with a step left has not ended before
  pub ends_later : (y : ℕ) → Some (cut.rest y) → m.round ≤ (end runs (job y)).0
  unfolding end
  ends_later y some =
      rw (rounds_whole y) (last_has (λ q. m.round ≤ q) first_round (get_or now y []) (cut.rest y) (left_high y) some)

  -- so a job that ended before has none left
  pub none_left : (y : ℕ) → (end runs (job y)).0 < m.round → cut.rest y ≡ []
  none_left y lt = elim (none_or_some (cut.rest y)) [
    | inl none ↦ none
    | inr some ↦ absurd (omega (arith, ends_later y some))
  ]

  -- the next step's job has a step left, and the round of that step is the cut's
  pub next_left : Some (cut.rest x)
  next_left = cons_some cut.next

  pub next_place : length (get_or now x []) < length (rounds_of runs (job x))
  unfolding rounds
  next_place =
      let count = ap length (rounds_whole x) ∙ map_length (λ (n : Mark). round n.round) (get_or now x [] ++ cut.rest x)
      ∙ length-append (get_or now x []) (cut.rest x) ∙ ap (λ (l : List Mark). length (get_or now x []) + length l) cut.next in
      omega (arith, count)

  pub next_round : (round_of runs (job x) (length (get_or now x []))).0 ≡ m.round
  unfolding rounds
  next_round =
      ap (λ (l : List Round). (get_or l (length (get_or now x [])) first_round).0)
      (rounds_whole x ∙ ap (λ (l : List Mark). rounds (get_or now x [] ++ l)) cut.next)
      ∙ ap (λ (r : Round). r.0)
      (get_or-map (λ (n : Mark). round n.round) (get_or now x [] ++ m ∷ cut.more) (length (get_or now x [])) (record { round = 0; value = 0 }))
      ∙ ap (λ (n : Mark). n.round) (get_or-append_seam (get_or now x []) m cut.more (record { round = 0; value = 0 }))

  -- a job that has not begun starts with that step
  pub starts_here : get_or now x [] ≡ [] → start runs (job x) ≡ round m.round
  unfolding start rounds first_or
  starts_here none = ap (first_or first_round) (rounds_whole x ∙ ap₂ (λ (l k : List Mark). rounds (l ++ k)) none cut.next)

  -- of a job below x the steps up to the cut's round are those made
  steps_made_lem : (y : ℕ) → y < x
      → only (λ step. leb step.round.0 m.round) (steps_of runs (job y)) ≡ take (length (get_or now y []))
      (steps_of runs (job y))
  unfolding mark_of
  steps_made_lem y lt =
      let n = length (get_or now y []) in
      let steps = steps_of runs (job y) in
      let test : Step → Bool = λ step. leb step.round.0 m.round in
      let front : map mark_of (take n steps) ≡ get_or now y [] =
      map_take mark_of n steps ∙ ap (take n) (marks_whole y) ∙ take-append_seam (get_or now y []) (cut.rest y) in
      let back : map mark_of (drop n steps) ≡ cut.rest y =
      map_drop mark_of n steps ∙ ap (drop n) (marks_whole y) ∙ drop-append_seam (get_or now y []) (cut.rest y) in
      let low = every_unmap (λ n. n.round ≤ m.round) mark_of (take n steps) (subst (Every (λ n. n.round ≤ m.round)) (sym front) (made_low y)) in
      let high = every_unmap (λ n. m.round < n.round) mark_of (drop n steps) (subst (Every (λ n. m.round < n.round)) (sym back) (left_higher y lt)) in
      ap (only test) (sym (take-append-drop n steps)) ∙ only_append test (take n steps) (drop n steps)
      ∙ ap₂ (λ (l k : List Step). l ++ k)
      (only_all test (take n steps) (every_imp (λ (step : Step). step.round.0 ≤ m.round) _ (λ step le. le-leb _ _ le) (take n steps) low))
      (only_none test (drop n steps) (every_imp (λ (step : Step). m.round < step.round.0) _ (λ step more. lt-leb _ _ more) (drop n steps) high))
      ∙ append-nil (take n steps)

  -- so its priority then is that after the steps made
  pub priority_made : (a : Accepted) (y : ℕ) → y < x
      → priority_at a runs (job y) (round m.round) ≡ last_or (base a (job y))
      (map (λ step. step.priority_after) (take (length (get_or now y [])) (steps_of runs (job y))))
  unfolding priority_at
  priority_made a y lt = ap (λ (l : List Step). last_or (base a (job y)) (map (λ step. step.priority_after) l)) (steps_made_lem y lt)

  -- ---- how the jobs of a legal plan lie to the next step's

  module _ {a : Accepted} (ok : IsAccepted a) (plan : Plan) (legal : Legal a plan runs) (is_x : IsJob a (job x)) where
    -- the next step's job has started by the cut's round
    started_here : (start runs (job x)).0 ≤ m.round
    started_here = omega (arith, (legal_rising a plan legal).between (job x) is_x (length (get_or now x [])) next_place, next_round)

    -- where x has no step within y, the cut's round is not after y's start and up to its end
    round_clear : (y : Job) → no_step_within runs (job x) y ≡ true
        → (start runs y).0 < m.round → m.round ≤ (end runs y).0 → ⊥
    unfolding no_step_within
    round_clear y clear after upto =
        let test : ℕ → Bool = λ r. not (ltb (start runs y).0 r && leb r (end runs y).0) in
        let free = ap test (sym next_round)
        ∙ all_at (λ r. test r.0) (rounds_of runs (job x)) (length (get_or now x [])) first_round clear next_place in
        not_both _ (and_holds _ _ (lt-ltb _ _ after) (le-leb _ _ upto)) (not-true _ free)

    -- no job above x has a step made and a step left
    pub none_above : (y : ℕ) → IsJob a (job y) → x < y → Some (get_or now y []) → Some (cut.rest y) → ⊥
    unfolding job
    none_above y isY lt some more =
        let begins = started_lower y lt some in
        let lasts = ends_later y more in
        elim (rounds_lie a plan ok.is_timed legal (job x) (job y) isY lt) [
          | inl first ↦ omega (arith, ends_later x next_left)
          | inr (inl second) ↦ omega (arith, started_here)
          | inr (inr third) ↦ round_clear (job y) third.clear begins lasts
        ]

    -- where x starts with its next step, it lies within each other job that has a step made and a step left
    pub lies_within : (y : ℕ) → y < x → get_or now x [] ≡ [] → Some (get_or now y []) → Some (cut.rest y)
        → Within a runs (job x) (job y)
    unfolding job
    lies_within y lt none some more =
        let here = ap (λ (r : Round). r.0) (starts_here none) in
        let begins = has_started y some in
        let lasts = ends_later y more in
        elim (rounds_lie a plan ok.is_timed legal (job y) (job x) is_x lt) [
          | inl first ↦ absurd (omega arith)
          | inr (inl second) ↦ absurd (omega (arith, ends_later x next_left))
          | inr (inr third) ↦ third
        ]

    -- and each job before it has no step left
    pub before_done : (z : Job) → IsJob a z → before a z (job x) ≡ true → get_or now x [] ≡ [] → cut.rest z.0 ≡ []
    unfolding before_rule job
    before_done z isZ h none =
        let rule = (legal_rules a plan legal z (job x) isZ is_x (before_says a z (job x) h).0).0 in
        let ends : (end runs z).0 < (start runs (job x)).0 = ltb-true _ _ (implied_holds (before a z (job x)) _ rule h) in
        none_left z.0 (omega (arith, ends, ap (λ (r : Round). r.0) (starts_here none)))
