-- Laws of the rounds and priorities of one job's steps, as its functions read them: the first and the last, and, for
-- the loops, what the steps from k on decide.
-- Assumes nothing.
use Rattle.std.specs.Prelude.{◌≡◌, Bool, true, false, ◌&&◌, get_or}
use Rattle.std.proofs.Math.Path.{sym, ap}
use Rattle.std.proofs.Common.{◌∙◌, add-one, lt-ltb, le-ltb, le-leb, refl}
use Prim.Native.Nat.{ℕ, zero, suc, ◌+◌, ◌-◌, ◌*◌, ◌≤◌, ◌<◌}
use native.Mathlib.Omega.{arith}
use Rattle.std.proofs.Math.Bool.{not}
use mathlib.Core.List.{List, [], ◌∷◌, map, map-map}
use Rattle.std.proofs.lemmas.Bool.{lt-leb}
use Rattle.std.specs.Prelude.{if◌then◌else◌}
use Rattle.std.specs.List.{list_all, range_with_len}
use Rattle.notation.specs.Lists.{from, up_to, all, only, first_or, last_or}
use Rattle.notation.specs.Laws.SearchLaws.{from_first, from_none}
use Rattle.notation.specs.Laws.TestLaws.{and_first, and_second, and_last, and_holds}
use Rattle.plan.specs.declared.Round.{Round}
use Rattle.plan.specs.Runs.{Step, first_round, earlier, not_later}
use Rattle.plan_marks.specs.declared.Marks.{Marks}
use Rattle.plan_marks.specs.declared.StepMark.{StepMark}
use Rattle.plan_marks.specs.Code.Marks.{step_of, no_mark, step_marked, step_count, steps_marked, rounds_in, steps_listed}
use Rattle.plan_marks.specs.Code.PairParts.{round_of_first, round_of_start, round_of_end, none_within, priority_reached}

-- ---- the steps from k on, of n

unfoldable pub marks_from : Marks → ℕ → ℕ → ℕ → List Step
marks_from marks x n k = map (step_marked marks x) (from k (n - k))

abbrev pub rounds_left : Marks → ℕ → ℕ → ℕ → List Round
rounds_left marks x n k = map (λ step. step.round) (marks_from marks x n k)

module _ (marks : Marks) (x n : ℕ) where
  marks_all : n ≡ step_count marks x → steps_marked marks x ≡ marks_from marks x n 0
  unfolding marks_from steps_marked up_to
  marks_all size =
      let whole : step_count marks x ≡ n - 0 = omega arith in
      ap (λ (m : ℕ). map (step_marked marks x) (from 0 m)) whole

  marks_next : (k : ℕ) → k < n → marks_from marks x n k ≡ step_marked marks x k ∷ marks_from marks x n (k + 1)
  unfolding marks_from
  marks_next k lt = ap (map (step_marked marks x)) (from_first k n lt)

  marks_none : (k : ℕ) → n ≤ k → marks_from marks x n k ≡ []
  unfolding marks_from
  marks_none k le = ap (map (step_marked marks x)) (from_none k n le)

-- the round of a step that was read
pub round_of_step : {read meant : Step} → read ≡ meant → read.round ≡ meant.round
round_of_step same = ap (λ (step : Step). step.round) same

-- ---- the first round in arrays of any marks

module _ (counts : List ℕ) (steps : List StepMark) (x : ℕ) where
  pub first_none : get_or counts x 0 ≡ 0 → first_round ≡ round_of_first counts steps x
  unfolding round_of_first steps_listed up_to from first_or
  first_none none = rw none refl

  pub first_some : (get_or counts x 0 ≡ 0 → ⊥) → {i : ℕ} → i ≡ 16 * x
      → (get_or steps i no_mark).round ≡ round_of_first counts steps x
  unfolding round_of_first steps_listed up_to first_or
  first_some some {i} is =
      let place : i ≡ 16 * x + 0 = omega (arith, is) in
      let whole : get_or counts x 0 ≡ get_or counts x 0 - 0 = omega arith in
      ap (λ (j : ℕ). (get_or steps j no_mark).round) place
      ∙ sym (ap (λ (l : List ℕ).
      first_or first_round (map (λ step. step.round) (map (λ k. step_of (get_or steps (16 * x + k) no_mark)) l)))
      (ap (from 0) whole ∙ from_first 0 (get_or counts x 0) (omega arith)))

-- of whole marks it is the round of the start
pub first_started : (marks : Marks) (x : ℕ) → round_of_first marks.counts marks.steps x ≡ round_of_start marks x
unfolding round_of_first steps_listed round_of_start rounds_in steps_marked step_marked step_count
first_started marks x = refl

-- ---- the first and the last round

module _ (marks : Marks) (x : ℕ) {n : ℕ} (size : n ≡ step_count marks x) where
  pub start_none : n ≡ 0 → first_round ≡ round_of_start marks x
  unfolding round_of_start rounds_in first_or
  start_none none =
      sym (ap (λ (l : List Step). first_or first_round (map (λ step. step.round) l))
      (marks_all marks x n size ∙ marks_none marks x n 0 (omega arith)))

  pub start_first : (n ≡ 0 → ⊥) → {r : Round} → r ≡ (step_marked marks x 0).round → r ≡ round_of_start marks x
  unfolding round_of_start rounds_in first_or
  start_first some {r} read =
      read
      ∙ sym (ap (λ (l : List Step). first_or first_round (map (λ step. step.round) l))
      (marks_all marks x n size ∙ marks_next marks x n 0 (omega arith)))

  pub end_none : n ≡ 0 → first_round ≡ round_of_end marks x
  unfolding round_of_end rounds_in last_or
  end_none none =
      sym (ap (λ (l : List Step). last_or first_round (map (λ step. step.round) l))
      (marks_all marks x n size ∙ marks_none marks x n 0 (omega arith)))

  last_round_lem : (d : Round) (k m : ℕ)
      → last_or d (map (λ step. step.round) (map (step_marked marks x) (from k (suc m)))) ≡ (step_marked marks x (k + m)).round
  unfolding from last_or
  last_round_lem d k zero = ap (λ (j : ℕ). (step_marked marks x j).round) (omega arith)
  last_round_lem d k (suc m) =
      last_round_lem (step_marked marks x k).round (suc k) m ∙ ap (λ (j : ℕ). (step_marked marks x j).round) (omega arith)

  pub end_last : (n ≡ 0 → ⊥) → {r : Round} → r ≡ (step_marked marks x (n - 1)).round → r ≡ round_of_end marks x
  unfolding round_of_end rounds_in steps_marked up_to
  end_last some {r} read =
      let whole : step_count marks x ≡ suc (n - 1) = omega arith in
      let place : 0 + (n - 1) ≡ n - 1 = omega arith in
      read
      ∙ sym (ap (λ (m : ℕ). last_or first_round (map (λ step. step.round) (map (step_marked marks x) (from 0 m)))) whole
      ∙ last_round_lem first_round 0 (n - 1) ∙ ap (λ (j : ℕ). (step_marked marks x j).round) place)

-- ---- no step within

-- a test of the images of numbers that follow each other
all_images : {A : Type 0} (test : A → Bool) (f : ℕ → A) (s n : ℕ)
    → list_all (λ k. test (f k)) (range_with_len s n) ≡ all test (map f (from s n))
unfolding all from
all_images test f s zero = refl
all_images test f s (suc n) =
    ap (λ (b : Bool). test (f s) && b)
    (ap (λ (k : ℕ). list_all (λ k. test (f k)) (range_with_len k n)) (add-one s) ∙ all_images test f (suc s) n)

-- the test of each step in turn
pub none_listed : (marks : Marks) (x : ℕ) (r q : Round) {n : ℕ} → n ≡ step_count marks x
    → list_all (λ k. not (earlier r (step_marked marks x k).round && not_later (step_marked marks x k).round q)) (range_with_len 0 n)
    ≡ none_within marks x r q
unfolding none_within rounds_in steps_marked up_to
none_listed marks x r q {n} size =
    all_images (λ p. not (earlier r p && not_later p q)) (λ k. (step_marked marks x k).round) 0 n
    ∙ ap (λ (m : ℕ). all (λ p. not (earlier r p && not_later p q)) (map (λ k. (step_marked marks x k).round) (from 0 m))) size
    ∙ sym (ap (all (λ p. not (earlier r p && not_later p q)))
    (map-map (λ (step : Step). step.round) (step_marked marks x) (from 0 (step_count marks x))))

-- the search for a step in rounds r + 1 to q has come to step k, of n
pub record NoneFrom (marks : Marks) (x : ℕ) (r q : Round) (n k : ℕ) : Type 0 where
  pub within : k ≤ n
  pub same : none_within marks x r q ≡ all (λ p. not (earlier r p && not_later p q)) (rounds_left marks x n k)

module _ (marks : Marks) (x : ℕ) (r q : Round) (n : ℕ) where
  abbrev outside : List Round → Bool
  outside = all (λ p. not (earlier r p && not_later p q))

  abbrev rounds_then : List Step → Bool
  rounds_then l = outside (map (λ step. step.round) l)

  pub none_starts : n ≡ step_count marks x → NoneFrom marks x r q n 0
  unfolding none_within rounds_in
  none_starts size = record { within = omega arith; same = ap rounds_then (marks_all marks x n size) }

  module _ (k : ℕ) (so_far : NoneFrom marks x r q n k) where
    -- step k decides, or those behind it
    none_step : k < n → {p : Round} → p ≡ (step_marked marks x k).round
        → none_within marks x r q ≡ (not (earlier r p && not_later p q) && outside (rounds_left marks x n (k + 1)))
    unfolding all
    none_step lt {p} read =
        so_far.same ∙ ap rounds_then (marks_next marks x n k lt)
        ∙ ap (λ (s : Round). not (earlier r s && not_later s q) && outside (rounds_left marks x n (k + 1))) (sym read)

    pub none_found : k < n → {p : Round} → p ≡ (step_marked marks x k).round → r.0 < p.0 → not_later p q ≡ true
        → false ≡ none_within marks x r q
    none_found lt {p} read later up =
        sym (none_step lt read
        ∙ and_first (not (earlier r p && not_later p q)) _
        (ap not (and_holds (earlier r p) _ (lt-ltb r.0 p.0 later) up)))

    none_later : k < n → {p : Round} → p ≡ (step_marked marks x k).round → (earlier r p && not_later p q) ≡ false
        → NoneFrom marks x r q n (k + 1)
    none_later lt {p} read out =
        record {
          within = omega arith;
          same = none_step lt read ∙ and_second (not (earlier r p && not_later p q)) _ (ap not out);
        }

    -- a step up to r, or behind q
    pub none_early : k < n → {p : Round} → p ≡ (step_marked marks x k).round → p.0 ≤ r.0 → NoneFrom marks x r q n (k + 1)
    none_early lt {p} read up = none_later lt read (and_first (earlier r p) _ (le-ltb r.0 p.0 up))

    pub none_late : k < n → {p : Round} → p ≡ (step_marked marks x k).round → not_later p q ≡ false
        → NoneFrom marks x r q n (k + 1)
    none_late lt {p} read past = none_later lt read (and_last (earlier r p) _ past)

    pub none_ends : n ≤ k → true ≡ none_within marks x r q
    unfolding all
    none_ends le = sym (so_far.same ∙ ap rounds_then (marks_none marks x n k le))

-- ---- the priority up to a round

-- the walk through a job's steps up to round r has come to step k, of n, with this priority
pub record PriorityFrom (marks : Marks) (base x : ℕ) (r : Round) (n priority k : ℕ) : Type 0 where
  pub within : k ≤ n
  pub same : priority_reached marks base x r ≡ last_or priority
      (map (λ step. step.priority_after) (only (λ step. not_later step.round r) (marks_from marks x n k)))

module _ (marks : Marks) (base x : ℕ) (r : Round) (n : ℕ) where
  abbrev last_after : ℕ → List Step → ℕ
  last_after priority l =
      last_or priority (map (λ step. step.priority_after) (only (λ step. not_later step.round r) l))

  pub priority_starts : n ≡ step_count marks x → PriorityFrom marks base x r n base 0
  unfolding priority_reached
  priority_starts size = record { within = omega arith; same = ap (last_after base) (marks_all marks x n size) }

  module _ (priority k : ℕ) (so_far : PriorityFrom marks base x r n priority k) where
    priority_step : k < n → {p : Round} → p ≡ (step_marked marks x k).round
        → priority_reached marks base x r
        ≡ last_or priority (map (λ step. step.priority_after)
        (if not_later p r
        then step_marked marks x k ∷ only (λ step. not_later step.round r) (marks_from marks x n (k + 1))
        else only (λ step. not_later step.round r) (marks_from marks x n (k + 1))))
    unfolding only
    priority_step lt {p} read =
        so_far.same ∙ ap (last_after priority) (marks_next marks x n k lt)
        ∙ ap (λ (s : Round). last_or priority (map (λ step. step.priority_after)
        (if not_later s r
        then step_marked marks x k ∷ only (λ step. not_later step.round r) (marks_from marks x n (k + 1))
        else only (λ step. not_later step.round r) (marks_from marks x n (k + 1))))) (sym read)

    -- a step up to r sets it, a later one keeps it
    pub priority_set : k < n → {p : Round} → p ≡ (step_marked marks x k).round → p.0 ≤ r.0
        → {after : ℕ} → after ≡ (step_marked marks x k).priority_after → PriorityFrom marks base x r n after (k + 1)
    unfolding last_or
    priority_set lt {p} read up {after} set =
        record {
          within = omega arith;
          same = priority_step lt read ∙ rw (le-leb p.0 r.0 up)
              (ap (λ (a : ℕ). last_after a (marks_from marks x n (k + 1))) (sym set));
        }

    pub priority_kept : k < n → {p : Round} → p ≡ (step_marked marks x k).round → r.0 < p.0
        → {after : ℕ} → after ≡ priority → PriorityFrom marks base x r n after (k + 1)
    priority_kept lt {p} read later {after} kept =
        record {
          within = omega arith;
          same = priority_step lt read ∙ rw (lt-leb p.0 r.0 later)
              (ap (λ (a : ℕ). last_after a (marks_from marks x n (k + 1))) (sym kept));
        }

    pub priority_ends : n ≤ k → priority ≡ priority_reached marks base x r
    unfolding only last_or
    priority_ends le = sym (so_far.same ∙ ap (last_after priority) (marks_none marks x n k le))
