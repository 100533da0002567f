-- Laws of the steps that the jobs of an order have made: their first and last rounds and priorities, and what one
-- step more of one job makes of them.
-- Assumes nothing.
use Rattle.std.specs.Prelude.{◌≡◌, ℕ, ◌≤◌, ◌<◌, length, get_or, eqb}
use Rattle.std.proofs.Math.Path.{refl, ap}
use Rattle.std.proofs.Common.{◌∙◌, inl, inr, arith, eq-eqb, ne_eqb, le-leb}
use mathlib.Core.List.{List, [], ◌∷◌, ◌++◌, map}
use Rattle.std.proofs.Math.Dec.{leb}
use Rattle.std.proofs.lemmas.Bool.{lt-leb}
use Rattle.notation.specs.Laws.ListLaws.{map_snoc}
use Rattle.std.specs.Prelude.{if◌then◌else◌}
use Rattle.notation.specs.Lists.{only, first_or, last_or}
use Rattle.notation.specs.Laws.QuantifierLaws.{map_length, map_at}
use Rattle.timing.specs.declared.Job.{Job}
use Rattle.timing.specs.Accepted.{Accepted}
use Rattle.timing.specs.Relations.{base}
use Rattle.plan.specs.Runs.{Step}
use Rattle.notation.specs.Laws.ElementLaws.{last_snoc, first_snoc_none, first_snoc_some, snoc_at, only_every, only_drops}
use Rattle.matching.proofs.Laws.TwoJobs.Pairings.{Made, made_rounds, first, last, priority_up_to, priority_now, Inside}

-- ---- one step more

unfoldable pub made_with : Made → ℕ → Step → Made
made_with made x st = λ y. if eqb y x then made y ++ (st ∷ []) else made y

module _ (made : Made) (x : ℕ) (st : Step) where
  pub made_here : made_with made x st x ≡ made x ++ (st ∷ [])
  unfolding made_with
  made_here = rw (eq-eqb x x refl) refl

  pub made_other : (y : ℕ) → (y ≡ x → ⊥) → made_with made x st y ≡ made y
  unfolding made_with
  made_other y apart = rw (ne_eqb y x apart) refl

-- ---- a job without a step more

module _ (made later : Made) (y : Job) (same : later y.0 ≡ made y.0) where
  pub rounds_same : made_rounds later y ≡ made_rounds made y
  unfolding made_rounds
  rounds_same = ap (map (λ (step : Step). step.round.0)) same

  pub first_same : first later y ≡ first made y
  unfolding first
  first_same = ap (first_or 0) rounds_same

  pub last_same : last later y ≡ last made y
  unfolding last
  last_same = ap (last_or 0) rounds_same

  pub up_to_same : (a : Accepted) (r : ℕ) → priority_up_to a later y r ≡ priority_up_to a made y r
  unfolding priority_up_to
  up_to_same a r =
      ap (λ (l : List Step). last_or (base a y) (map (λ step. step.priority_after) (only (λ step. leb step.round.0 r) l))) same

  pub now_same : (a : Accepted) → priority_now a later y ≡ priority_now a made y
  unfolding priority_now
  now_same a = ap (λ (l : List Step). last_or (base a y) (map (λ step. step.priority_after) l)) same

-- ---- the job with a step more

pub rounds_length : (made : Made) (x : Job) → length (made_rounds made x) ≡ length (made x.0)
unfolding made_rounds
rounds_length made x = map_length (λ (step : Step). step.round.0) (made x.0)

module _ (made later : Made) (x : Job) (st : Step) (more : later x.0 ≡ made x.0 ++ (st ∷ [])) where
  pub rounds_more : made_rounds later x ≡ made_rounds made x ++ (st.round.0 ∷ [])
  unfolding made_rounds
  rounds_more = ap (map (λ (step : Step). step.round.0)) more ∙ map_snoc (λ (step : Step). step.round.0) (made x.0) st

  pub last_more : last later x ≡ st.round.0
  unfolding last
  last_more = ap (last_or 0) rounds_more ∙ last_snoc 0 (made_rounds made x) st.round.0

  -- its first round stays where it had made a step, and is this one where it had not
  pub first_more : 0 < length (made x.0) → first later x ≡ first made x
  unfolding first
  first_more h = ap (first_or 0) rounds_more ∙ first_snoc_some 0 (made_rounds made x) st.round.0 (omega (arith, rounds_length made x))

  pub first_started : length (made x.0) ≡ 0 → first later x ≡ st.round.0
  unfolding first
  first_started e = ap (first_or 0) rounds_more ∙ first_snoc_none 0 (made_rounds made x) st.round.0 (omega (arith, rounds_length made x))

  pub now_more : (a : Accepted) → priority_now a later x ≡ st.priority_after
  unfolding priority_now
  now_more a =
      ap (λ (l : List Step). last_or (base a x) (map (λ step. step.priority_after) l)) more
      ∙ ap (last_or (base a x)) (map_snoc (λ (step : Step). step.priority_after) (made x.0) st)
      ∙ last_snoc (base a x) (map (λ step. step.priority_after) (made x.0)) st.priority_after

  -- its priority up to an earlier round stays
  pub up_to_more : (a : Accepted) (r : ℕ) → r < st.round.0 → priority_up_to a later x r ≡ priority_up_to a made x r
  unfolding priority_up_to
  up_to_more a r lt =
      ap (λ (l : List Step). last_or (base a x) (map (λ step. step.priority_after) (only (λ step. leb step.round.0 r) l))) more
      ∙ ap (λ (l : List Step). last_or (base a x) (map (λ step. step.priority_after) l))
      (only_drops (λ (step : Step). leb step.round.0 r) (made x.0) st (lt-leb st.round.0 r lt))

-- where no round is after r, the priority up to r is that after all steps
pub up_to_all : (a : Accepted) (made : Made) (x : Job) (r : ℕ)
    → ((k : ℕ) → k < length (made_rounds made x) → get_or (made_rounds made x) k 0 ≤ r)
    → priority_up_to a made x r ≡ priority_now a made x
unfolding priority_up_to priority_now made_rounds
up_to_all a made x r h =
    ap (λ (l : List Step). last_or (base a x) (map (λ step. step.priority_after) l))
    (only_every (λ (step : Step). leb step.round.0 r) none (made x.0) (λ k lt. le-leb _ r (at k lt)))
  where
    none : Step
    none = record { round = record { 0 = 0 }; value = 0; priority_after = 0 }

    at : (k : ℕ) → k < length (made x.0) → (get_or (made x.0) k none).round.0 ≤ r
    at k lt =
        let is = map_at (λ (step : Step). step.round.0) (made x.0) k none 0 lt in
        omega (arith, is, h k (omega (arith, map_length (λ (step : Step). step.round.0) (made x.0))))

-- ---- inside

-- y inside x, where neither of the two made a step more
pub inside_same : (a : Accepted) (made later : Made) (y x : Job) → later y.0 ≡ made y.0
    → later x.0 ≡ made x.0 → Inside a made y x → Inside a later y x
inside_same a made later y x sameY sameX inside =
    let firstY = first_same made later y sameY in
    record {
      starts = omega (arith, firstY, first_same made later x sameX, inside.starts);
      clear = λ k lt.
          let rounds = rounds_same made later x sameX in
          let at : get_or (made_rounds later x) k 0 ≡ get_or (made_rounds made x) k 0 = ap (λ (l : List ℕ). get_or l k 0) rounds in
          elim (inside.clear k (omega (arith, ap (λ (l : List ℕ). length l) rounds))) [
            | inl low ↦ inl (omega arith)
            | inr high ↦ inr (omega (arith, last_same made later y sameY))
          ];
      unlocked =
          let up = up_to_same made later x sameX a (first later y) in
          let at = ap (priority_up_to a made x) firstY in
          omega (arith, up, at, inside.unlocked);
    }

-- and where x made one, in a round after y's last
pub inside_more : (a : Accepted) (made later : Made) (y x : Job) (st : Step) → later y.0 ≡ made y.0
    → later x.0 ≡ made x.0 ++ (st ∷ []) → 0 < length (made x.0) → first made y ≤ last made y
    → last made y < st.round.0 → Inside a made y x → Inside a later y x
inside_more a made later y x st sameY more some rises after inside =
    let firstY = first_same made later y sameY in
    let lastY = last_same made later y sameY in
    record {
      starts = omega (arith, firstY, first_more made later x st more some, inside.starts);
      clear = λ k lt.
          let rounds = rounds_more made later x st more in
          let at = ap (λ (l : List ℕ). get_or l k 0) rounds in
          elim (snoc_at (made_rounds made x) st.round.0 k 0 (omega (arith, ap (λ (l : List ℕ). length l) rounds))) [
            | inl old ↦ elim (inside.clear k old.0) [ inl low ↦ inl (omega (arith, old.1)) | inr high ↦ inr (omega (arith, old.1)) ]
            | inr new ↦ inr (omega arith)
          ];
      unlocked =
          let up = up_to_more made later x st more a (first later y) (omega arith) in
          let at = ap (priority_up_to a made x) firstY in
          omega (arith, up, at, inside.unlocked);
    }

-- y's steps are inside x where no step of x is after y's first, and x's priority is below y's base
pub inside_ended : (a : Accepted) (made : Made) (y x : Job)
    → ((k : ℕ) → k < length (made_rounds made x) → get_or (made_rounds made x) k 0 ≤ last made x)
    → first made x ≤ first made y → last made x ≤ first made y → priority_now a made x < base a y → Inside a made y x
inside_ended a made y x rises starts ends below =
    let up : (k : ℕ) → k < length (made_rounds made x) → get_or (made_rounds made x) k 0 ≤ first made y = λ k lt. omega (arith, rises k lt) in
    record {
      starts = starts;
      clear = λ k lt. inl (up k lt);
      unlocked = omega (arith, up_to_all a made x (first made y) up, below);
    }
