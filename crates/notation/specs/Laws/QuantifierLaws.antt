-- Laws of `all`, `any` and `first_with`, by the index of an element.
-- Assumes nothing.
use Rattle.std.proofs.Math.Path.{◌≡◌, refl, ap}
use Rattle.std.proofs.Common.{sym, ◌∙◌, true≢false}
use Rattle.std.proofs.Math.Logic.{inl, inr}
use Prim.Native.Nat.{ℕ, zero, suc, ◌<◌}
use native.Mathlib.Omega.{arith}
use Rattle.std.specs.Prelude.{Bool, ◌&&◌, get_or}
use Rattle.std.proofs.Math.Bool.{true, false}
use mathlib.Core.List.{List, [], ◌∷◌, map, ◌++◌, reverse, reverse-cons}
use Rattle.std.proofs.Math.Option.{none, some}
use Rattle.std.proofs.Math.ListN.{length}
use Rattle.std.specs.Prelude.{if◌then◌else◌}
use Rattle.notation.specs.Lists.{all, any, first_with}
use Rattle.notation.specs.Laws.TestLaws.{and_both, or_either, and_holds, or_left, or_right, or_neither}

module _ {A : Type 0} (test : A → Bool) where
  -- a test that holds of all holds at each index, and the other way round
  pub all_at : (xs : List A) (k : ℕ) (d : A) → all test xs ≡ true → k < length xs → test (get_or xs k d) ≡ true
  unfolding all
  all_at [] k d h lt = absurd (omega arith)
  all_at (x ∷ xs) zero d h lt = (and_both (test x) _ h).0
  all_at (x ∷ xs) (suc k) d h lt = all_at xs k d (and_both (test x) _ h).1 (omega arith)

  pub at_all : (xs : List A) (d : A) → ((k : ℕ) → k < length xs → test (get_or xs k d) ≡ true) → all test xs ≡ true
  unfolding all
  at_all [] d h = refl
  at_all (x ∷ xs) d h = and_holds (test x) _ (h 0 (omega arith)) (at_all xs d (λ k lt. h (suc k) (omega arith)))

  -- a test that holds of some holds at an index
  pub any_at : (xs : List A) (d : A) → any test xs ≡ true → (k : ℕ) × (k < length xs) × (test (get_or xs k d) ≡ true)
  unfolding any
  any_at [] d h = absurd (true≢false (sym h))
  any_at (x ∷ xs) d h = elim (or_either (test x) _ h) [
    | inl e ↦ (0, omega arith, e)
    | inr e ↦ let found = any_at xs d e in (suc found.0, omega (arith, found.1), found.2)
  ]

  pub at_any : (xs : List A) (k : ℕ) (d : A) → k < length xs → test (get_or xs k d) ≡ true → any test xs ≡ true
  unfolding any
  at_any [] k d lt h = absurd (omega arith)
  at_any (x ∷ xs) zero d lt h = or_left (test x) _ h
  at_any (x ∷ xs) (suc k) d lt h = or_right (test x) _ (at_any xs k d (omega arith) h)

  -- one that holds of none holds at no index, and the other way round
  pub none_at : (xs : List A) (k : ℕ) (d : A) → any test xs ≡ false → k < length xs → test (get_or xs k d) ≡ false
  unfolding any
  none_at [] k d h lt = absurd (omega arith)
  none_at (x ∷ xs) zero d h lt = (or_neither (test x) _ h).0
  none_at (x ∷ xs) (suc k) d h lt = none_at xs k d (or_neither (test x) _ h).1 (omega arith)

  pub at_none : (xs : List A) (d : A) → ((k : ℕ) → k < length xs → test (get_or xs k d) ≡ false) → any test xs ≡ false
  unfolding any
  at_none [] d h = refl
  at_none (x ∷ xs) d h = rw (h 0 (omega arith)) (at_none xs d (λ k lt. h (suc k) (omega arith)))

  -- the first element of which it holds
  pub first_at : (xs : List A) (d : A) {y : A} → first_with test xs ≡ some y
      → (k : ℕ) × (k < length xs) × (get_or xs k d ≡ y) × (test y ≡ true)
  unfolding first_with
  first_at [] d {y} h = absurd (let z : ◌≡◌ {A = ℕ} 0 1 = cc in omega arith)
  first_at (x ∷ xs) d {y} h = go (test x) refl h (λ rest. first_at xs d rest)
    where
      go : (b : Bool) → test x ≡ b → (if b then some x else first_with test xs) ≡ some y
          → (first_with test xs ≡ some y → (k : ℕ) × (k < length xs) × (get_or xs k d ≡ y) × (test y ≡ true))
          → (k : ℕ) × (k < length (x ∷ xs)) × (get_or (x ∷ xs) k d ≡ y) × (test y ≡ true)
      go true e h later = let same : x ≡ y = cc in (0, omega arith, same, ap test (sym same) ∙ e)
      go false e h later = let found = later h in (suc found.0, omega (arith, found.1), found.2, found.3)

  pub first_only : (xs : List A) (k : ℕ) (d : A) → k < length xs → test (get_or xs k d) ≡ true
      → ((j : ℕ) → j < length xs → test (get_or xs j d) ≡ true → j ≡ k) → first_with test xs ≡ some (get_or xs k d)
  unfolding first_with
  first_only [] k d lt h only = absurd (omega arith)
  first_only (x ∷ xs) zero d lt h only = rw h refl
  first_only (x ∷ xs) (suc k) d lt h only = go (test x) refl (first_only xs k d (omega arith) h (λ j l t. omega (arith, only (suc j) (omega arith) t)))
    where
      go : (b : Bool) → test x ≡ b → first_with test xs ≡ some (get_or xs k d)
          → (if b then some x else first_with test xs) ≡ some (get_or xs k d)
      go true e later = absurd (omega (arith, only 0 (omega arith) e))
      go false e later = later

  pub first_none : (xs : List A) (d : A) → ((k : ℕ) → k < length xs → test (get_or xs k d) ≡ false)
      → first_with test xs ≡ none
  unfolding first_with
  first_none [] d h = refl
  first_none (x ∷ xs) d h = rw (h 0 (omega arith)) (first_none xs d (λ k lt. h (suc k) (omega arith)))

-- ---- a function's values

pub map_length : {A B : Type 0} (f : A → B) (xs : List A) → length (map f xs) ≡ length xs
map_length f [] = refl
map_length f (x ∷ xs) = ap suc (map_length f xs)

pub map_at : {A B : Type 0} (f : A → B) (xs : List A) (k : ℕ) (d : A) (e : B) → k < length xs
    → get_or (map f xs) k e ≡ f (get_or xs k d)
map_at f [] k d e lt = absurd (omega arith)
map_at f (x ∷ xs) zero d e lt = refl
map_at f (x ∷ xs) (suc k) d e lt = map_at f xs k d e (omega arith)

-- ---- lists the other way round

pub all_append : {A : Type 0} (test : A → Bool) (xs ys : List A) → all test (xs ++ ys) ≡ (all test xs && all test ys)
unfolding all
all_append test [] ys = refl
all_append test (x ∷ xs) ys = ap (λ (b : Bool). test x && b) (all_append test xs ys) ∙ sym (and_assoc (test x) _ _)
  where
    and_assoc : (p q r : Bool) → (p && q && r) ≡ (p && (q && r))
    and_assoc true q r = refl
    and_assoc false q r = refl

pub all_reverse : {A : Type 0} (test : A → Bool) (xs : List A) → all test (reverse xs) ≡ all test xs
unfolding all
all_reverse test [] = refl
all_reverse test (x ∷ xs) = rw (reverse-cons x xs, all_append test (reverse xs) (x ∷ []), all_reverse test xs) (swap (all test xs) (test x))
  where
    swap : (p q : Bool) → (p && (q && true)) ≡ (q && p)
    swap true true = refl
    swap true false = refl
    swap false true = refl
    swap false false = refl

-- a test of every element of a list and of the default holds of what is read at any index
pub all_get_or : {A : Type 0} (test : A → Bool) (xs : List A) (k : ℕ) (d : A) → all test xs ≡ true → test d ≡ true
    → test (get_or xs k d) ≡ true
unfolding all
all_get_or test [] k d h default = default
all_get_or test (x ∷ xs) zero d h default = (and_both (test x) (all test xs) h).0
all_get_or test (x ∷ xs) (suc k) d h default = all_get_or test xs k d (and_both (test x) (all test xs) h).1 default
