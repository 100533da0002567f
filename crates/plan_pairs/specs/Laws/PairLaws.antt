-- Laws of the pairs of one job with those above it, and of all pairs, as the loops go through them.
-- Assumes nothing.
use Rattle.std.specs.Prelude.{◌≡◌, Bool, true, false}
use Rattle.std.proofs.Math.Path.{refl, sym, ap}
use Rattle.std.proofs.Common.{◌∙◌}
use Prim.Native.Nat.{ℕ, suc, ◌+◌, ◌-◌, ◌≤◌, ◌<◌}
use native.Mathlib.Omega.{arith}
use Rattle.std.proofs.lemmas.Bool.{false≢true}
use Rattle.std.proofs.Math.Logic.{inl, inr}
use mathlib.Core.List.{List, [], ◌∷◌, map, ◌++◌}
use Rattle.notation.specs.Checked.{refused, passed, none_of, placed_by}
use Rattle.notation.specs.Lists.{any, from, up_to, each}
use Rattle.notation.specs.Laws.SearchLaws.{from_first, from_none}
use Rattle.notation.specs.Laws.TestLaws.{or_left, or_second, or_neither, test_decided}
use Rattle.plan.specs.Legality.{Pair}
use Rattle.plan_marks.specs.Code.PairParts.{pairs_with, pair_fault_among, pair_fault_in}

-- ---- the pairs of one job

-- the search of the numbers from s on, below n, for one of which the test holds, has come to k
pub record SomeFrom (test : ℕ → Bool) (s n k : ℕ) : Type 0 where
  pub within : k ≤ n
  pub same : any test (from s (n - s)) ≡ any test (from k (n - k))

module _ (test : ℕ → Bool) (s n : ℕ) where
  pub some_starts : s ≤ n → (k : ℕ) → k ≡ s → SomeFrom test s n k
  some_starts le k at =
      record { within = omega arith; same = ap (λ (m : ℕ). any test (from m (n - m))) (sym at) }

  module _ (k : ℕ) (so_far : SomeFrom test s n k) where
    pub some_found : k < n → {b : Bool} → b ≡ test k → b ≡ true → true ≡ any test (from s (n - s))
    unfolding any
    some_found lt same h =
        sym (so_far.same ∙ ap (any test) (from_first k n lt) ∙ or_left (test k) _ (sym same ∙ h))

    pub some_later : k < n → {b : Bool} → b ≡ test k → b ≡ false → SomeFrom test s n (k + 1)
    unfolding any
    some_later lt same h =
        record {
          within = omega arith;
          same = so_far.same ∙ ap (any test) (from_first k n lt) ∙ or_second (test k) _ (sym same ∙ h);
        }

    pub some_ends : n ≤ k → false ≡ any test (from s (n - s))
    unfolding any
    some_ends le = sym (so_far.same ∙ ap (any test) (from_none k n le))

-- ---- all pairs

-- a check of images and of the rest, where none of the images has the fault, and where one has
module _ {A P : Type 0} (number : ℕ) (fault : P → Bool) (f : A → P) (rest : List P) where
  images_free : (xs : List A) → any (λ x. fault (f x)) xs ≡ false
      → none_of number fault (map f xs ++ rest) ≡ none_of number fault rest
  unfolding none_of any
  images_free [] h = refl
  images_free (x ∷ xs) h =
      let parts = or_neither (fault (f x)) _ h in
      rw parts.0 (images_free xs parts.1)

  images_faulty : {Q : Type 0} (place : P → Q) (q : Q) → ((x : A) → place (f x) ≡ q) → (xs : List A)
      → any (λ x. fault (f x)) xs ≡ true → placed_by place (none_of number fault (map f xs ++ rest)) ≡ refused number q
  unfolding none_of any placed_by
  images_faulty place q there [] h = absurd (false≢true h)
  images_faulty place q there (x ∷ xs) h =
      elim (test_decided (fault (f x))) [
        | inl here ↦ rw here (ap (refused number) (there x))
        | inr not-here ↦ rw not-here (images_faulty place q there xs (sym (or_second (fault (f x)) _ not-here) ∙ h))
      ]

-- the search for a pair with the fault has come to those whose lower job is x, of k jobs
pub record FaultFrom (number : ℕ) (test : ℕ → ℕ → Bool) (k x : ℕ) : Type 0 where
  pub within : x ≤ k
  pub same : pair_fault_in number test k ≡ pair_fault_among number test k (from x (k - x))

module _ (number : ℕ) (test : ℕ → ℕ → Bool) (k : ℕ) where
  abbrev faulty : Pair → Bool
  faulty p = test p.lower.0 p.higher.0

  abbrev lower : Pair → ℕ
  lower p = p.lower.0

  pub fault_starts : FaultFrom number test k 0
  unfolding pair_fault_in up_to
  fault_starts =
      let whole : k ≡ k - 0 = omega arith in
      record {
        within = omega arith;
        same = ap (λ (m : ℕ). pair_fault_among number test k (from 0 m)) whole;
      }

  module _ (x : ℕ) (so_far : FaultFrom number test k x) where
    fault_step : x < k
        → pair_fault_in number test k
        ≡ placed_by (λ p. p.lower.0)
        (none_of number faulty (pairs_with k x ++ each (from (x + 1) (k - (x + 1))) (pairs_with k)))
    unfolding pair_fault_among each
    fault_step lt = so_far.same ∙ ap (pair_fault_among number test k) (from_first x k lt)

    pub fault_found : x < k
        → {b : Bool} → b ≡ any (test x) (from (suc x) (k - suc x)) → b ≡ true
        → refused number x ≡ pair_fault_in number test k
    unfolding pairs_with
    fault_found lt same h =
        sym (fault_step lt
        ∙ images_faulty number faulty (λ y. record { lower = record { 0 = x }; higher = record { 0 = y } }) _
        (λ p. p.lower.0) x (λ y. refl) (from (suc x) (k - suc x)) (sym same ∙ h))

    pub fault_later : x < k
        → {b : Bool} → b ≡ any (test x) (from (suc x) (k - suc x)) → b ≡ false
        → FaultFrom number test k (x + 1)
    unfolding pairs_with pair_fault_among
    fault_later lt same h =
        record {
          within = omega arith;
          same = fault_step lt
              ∙ ap (placed_by (λ p. p.lower.0))
              (images_free number faulty (λ y. record { lower = record { 0 = x }; higher = record { 0 = y } }) _
              (from (suc x) (k - suc x)) (sym same ∙ h));
        }

    pub fault_ends : k ≤ x → passed tt ≡ pair_fault_in number test k
    unfolding pair_fault_among each none_of placed_by
    fault_ends le = sym (so_far.same ∙ ap (pair_fault_among number test k) (from_none x k le))
