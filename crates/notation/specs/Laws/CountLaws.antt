-- Counting the values of a function on the numbers below k. Where they are below k and no two are the same, each
-- number below k is one of them, and r of them are below r. And counting the elements of a list of which a test
-- holds.
-- Assumes nothing.
use Rattle.std.specs.Prelude.{◌≡◌, Bool, get_or, ltb, eqb}
use Rattle.std.proofs.Math.Path.{refl, sym, ap}
use Rattle.std.proofs.Common.{◌∙◌, inl, inr, eqb-true, lt-ltb, le-ltb, eq-eqb, ne_eqb}
use Prim.Native.Nat.{ℕ, zero, suc, ◌+◌, ◌≤◌, ◌<◌}
use Rattle.std.proofs.Math.Decide.{dec_lt, ℕ_discrete}
use native.Mathlib.Omega.{arith}
use Rattle.std.proofs.Math.Bool.{true, false}
use mathlib.Core.List.{List, [], ◌∷◌, ◌++◌}
use Rattle.std.proofs.Math.ListN.{length}
use Rattle.std.specs.Prelude.{if◌then◌else◌}
use Rattle.notation.specs.Lists.{only}
use Rattle.notation.specs.Laws.TestLaws.{test_decided}

-- one more where the test holds
unfoldable pub counted : Bool → ℕ → ℕ
counted test n = if test then suc n else n

-- the number of x below k with f x below r
unfoldable pub count_below : (ℕ → ℕ) → ℕ → ℕ → ℕ
count_below f r zero = 0
count_below f r (suc k) = counted (ltb (f k) r) (count_below f r k)

-- the number of x below k with f x equal to r
unfoldable pub count_at : (ℕ → ℕ) → ℕ → ℕ → ℕ
count_at f r zero = 0
count_at f r (suc k) = counted (eqb (f k) r) (count_at f r k)

-- no two numbers below k have the same value
abbrev pub Distinct : (ℕ → ℕ) → ℕ → Type 0
Distinct f k = (x y : ℕ) → x < k → y < k → f x ≡ f y → x ≡ y

-- the values of the numbers below k are below r
abbrev pub Bounded : (ℕ → ℕ) → ℕ → ℕ → Type 0
Bounded f r k = (x : ℕ) → x < k → f x < r

-- ---- one number more

pub counted_in : (test : Bool) (n : ℕ) → test ≡ true → counted test n ≡ suc n
unfolding counted
counted_in test n e = rw e

pub counted_out : (test : Bool) (n : ℕ) → test ≡ false → counted test n ≡ n
unfolding counted
counted_out test n e = rw e

-- a value below r + 1 is below r or r itself
counted_suc : (v r m n : ℕ) → counted (ltb v (suc r)) (m + n) ≡ counted (ltb v r) m + counted (eqb v r) n
counted_suc v r m n =
    elim (dec_lt v r) [
      | yes below ↦
          let whole = counted_in _ (m + n) (lt-ltb v (suc r) (omega arith)) in
          omega (arith, whole, counted_in _ m (lt-ltb v r below), counted_out _ n (ne_eqb v r (λ e. omega arith)))
      | no other ↦
          elim (ℕ_discrete v r) [
            | yes same ↦
                let whole = counted_in _ (m + n) (lt-ltb v (suc r) (omega arith)) in
                omega (arith, whole, counted_out _ m (le-ltb v r (omega arith)), counted_in _ n (eq-eqb v r same))
            | no apart ↦
                let whole = counted_out _ (m + n) (le-ltb v (suc r) (omega arith)) in
                omega (arith, whole, counted_out _ m (le-ltb v r (omega arith)), counted_out _ n (ne_eqb v r apart))
          ]
    ]

-- ---- the values equal to r

-- none, where none is
pub count_at_none : (f : ℕ → ℕ) (r k : ℕ) → ((x : ℕ) → x < k → f x ≡ r → ⊥) → count_at f r k ≡ 0
unfolding count_at
count_at_none f r zero h = refl
count_at_none f r (suc k) h =
    counted_out _ _ (ne_eqb (f k) r (h k (omega arith))) ∙ count_at_none f r k (λ x lt. h x (omega arith))

-- at most one, where no two are the same
pub count_at_once : (f : ℕ → ℕ) (r k : ℕ) → Distinct f k → count_at f r k ≤ 1
unfolding count_at
count_at_once f r zero distinct = omega arith
count_at_once f r (suc k) distinct =
    elim (test_decided (eqb (f k) r)) [
      | inl e ↦
          let none = count_at_none f r k (λ x lt same. omega (arith, distinct x k (omega arith) (omega arith) (same ∙ sym (eqb-true _ _ e)))) in
          omega (arith, counted_in _ (count_at f r k) e, none)
      | inr e ↦
          let once = count_at_once f r k (λ x y is_x isY. distinct x y (omega arith) (omega arith)) in
          omega (arith, counted_out _ (count_at f r k) e, once)
    ]

-- some x has the value, where the count is not 0
pub count_at_some : (f : ℕ → ℕ) (r k : ℕ) → 0 < count_at f r k → (x : ℕ) × (x < k) × (f x ≡ r)
unfolding count_at
count_at_some f r zero h = absurd (omega arith)
count_at_some f r (suc k) h =
    elim (test_decided (eqb (f k) r)) [
      | inl e ↦ (k, omega arith, eqb-true _ _ e)
      | inr e ↦
          let found = count_at_some f r k (omega (arith, counted_out _ (count_at f r k) e)) in
          (found.0, omega (arith, found.1), found.2)
    ]

-- ---- the values below r

pub count_below_zero : (f : ℕ → ℕ) (k : ℕ) → count_below f 0 k ≡ 0
unfolding count_below
count_below_zero f zero = refl
count_below_zero f (suc k) = counted_out _ _ (le-ltb (f k) 0 (omega arith)) ∙ count_below_zero f k

pub count_below_suc : (f : ℕ → ℕ) (r k : ℕ) → count_below f (suc r) k ≡ count_below f r k + count_at f r k
unfolding count_below count_at
count_below_suc f r zero = refl
count_below_suc f r (suc k) =
    ap (counted (ltb (f k) (suc r))) (count_below_suc f r k) ∙ counted_suc (f k) r (count_below f r k) (count_at f r k)

pub count_below_all : (f : ℕ → ℕ) (r k : ℕ) → Bounded f r k → count_below f r k ≡ k
unfolding count_below
count_below_all f r zero bounded = refl
count_below_all f r (suc k) bounded =
    counted_in _ _ (lt-ltb (f k) r (bounded k (omega arith))) ∙ ap suc (count_below_all f r k (λ x lt. bounded x (omega arith)))

module _ (f : ℕ → ℕ) (k : ℕ) (distinct : Distinct f k) where
  -- q - r more numbers hold at most q - r more values
  count_below_more : (r q : ℕ) → r ≤ q → count_below f q k + r ≤ count_below f r k + q
  count_below_more r zero h =
      let same : r ≡ 0 = omega arith in
      omega (arith, ap (λ (n : ℕ). count_below f n k) same)
  count_below_more r (suc q) h =
      elim (ℕ_discrete r (suc q)) [
        | yes same ↦ omega (arith, ap (λ (n : ℕ). count_below f n k) same)
        | no apart ↦ omega (arith, count_below_more r q (omega arith), count_below_suc f q k, count_at_once f q k distinct)
      ]

  -- so at most r are below r, and at least r, since all k are below k
  pub count_below_is : Bounded f k k → (r : ℕ) → r ≤ k → count_below f r k ≡ r
  count_below_is bounded r most =
      omega (arith, count_below_more 0 r (omega arith), count_below_more r k most, count_below_zero f k, count_below_all f k k bounded)

  -- each number below k is a value
  pub every_value : Bounded f k k → (r : ℕ) → r < k → (x : ℕ) × (x < k) × (f x ≡ r)
  every_value bounded r lt =
      count_at_some f r k
      (omega (arith, count_below_suc f r k, count_below_is bounded r (omega arith), count_below_is bounded (suc r) (omega arith)))

-- ---- the elements of which a test holds, counted

-- a count grows by one at most, whatever the test says
counted_most : (b : Bool) (n : ℕ) → counted b n ≤ suc n
unfolding counted
counted_most true n = omega arith
counted_most false n = omega arith

-- two tests count in either order
counted_swap : (b c : Bool) (n : ℕ) → counted b (counted c n) ≡ counted c (counted b n)
unfolding counted
counted_swap true true n = refl
counted_swap true false n = refl
counted_swap false c n = refl

module _ {A : Type 0} where
  -- the first element counts if the test holds of it
  only_counted : (test : A → Bool) (x : A) (xs : List A)
      → length (only test (x ∷ xs)) ≡ counted (test x) (length (only test xs))
  unfolding only counted
  only_counted test x xs = go (test x)
    where
      go : (b : Bool)
          → length (if b then x ∷ only test xs else only test xs)
          ≡ (if b then suc (length (only test xs)) else length (only test xs))
      go true = refl
      go false = refl

  -- and so does one more at the end
  pub only_last : (test : A → Bool) (xs : List A) (y : A)
      → length (only test (xs ++ (y ∷ []))) ≡ counted (test y) (length (only test xs))
  only_last test [] y = only_counted test y []
  only_last test (x ∷ xs) y =
      only_counted test x (xs ++ (y ∷ []))
      ∙ ap (counted (test x)) (only_last test xs y)
      ∙ counted_swap (test x) (test y) (length (only test xs))
      ∙ ap (counted (test y)) (sym (only_counted test x xs))

  -- at most all, and fewer where it does not hold of one
  only_most : (test : A → Bool) (xs : List A) → length (only test xs) ≤ length xs
  unfolding only
  only_most test [] = omega arith
  only_most test (x ∷ xs) = omega (arith, only_counted test x xs, counted_most (test x) (length (only test xs)), only_most test xs)

  pub only_fewer : (test : A → Bool) (xs : List A) (k : ℕ) (d : A) → k < length xs → test (get_or xs k d) ≡ false
      → length (only test xs) < length xs
  only_fewer test [] k d lt e = absurd (omega arith)
  only_fewer test (x ∷ xs) zero d lt e =
      omega (arith, only_counted test x xs, counted_out (test x) (length (only test xs)) e, only_most test xs)
  only_fewer test (x ∷ xs) (suc k) d lt e =
      omega (arith, only_counted test x xs, counted_most (test x) (length (only test xs)), only_fewer test xs k d (omega arith) e)

  -- as many where two tests say the same of each
  pub only_same : (p q : A → Bool) (xs : List A) (d : A) → ((j : ℕ) → j < length xs → q (get_or xs j d) ≡ p (get_or xs j d))
      → length (only q xs) ≡ length (only p xs)
  unfolding only
  only_same p q [] d same = refl
  only_same p q (x ∷ xs) d same =
      only_counted q x xs
      ∙ ap (λ (b : Bool). counted b (length (only q xs))) (same 0 (omega arith))
      ∙ ap (counted (p x)) (only_same p q xs d (λ j lt. same (suc j) (omega arith)))
      ∙ sym (only_counted p x xs)

  -- one more where they differ at one
  pub only_more : (p q : A → Bool) (xs : List A) (k : ℕ) (d : A) → k < length xs → p (get_or xs k d) ≡ false
      → q (get_or xs k d) ≡ true → ((j : ℕ) → j < length xs → (j ≡ k → ⊥) → q (get_or xs j d) ≡ p (get_or xs j d))
      → length (only q xs) ≡ suc (length (only p xs))
  unfolding counted
  only_more p q [] k d lt e f same = absurd (omega arith)
  only_more p q (x ∷ xs) zero d lt e f same =
      only_counted q x xs
      ∙ counted_in (q x) _ f
      ∙ ap suc (only_same p q xs d (λ j lt. same (suc j) (omega arith) (λ e. omega arith)))
      ∙ ap suc (sym (only_counted p x xs ∙ counted_out (p x) _ e))
  only_more p q (x ∷ xs) (suc k) d lt e f same =
      only_counted q x xs
      ∙ ap (λ (b : Bool). counted b (length (only q xs))) (same 0 (omega arith) (λ e. omega arith))
      ∙ ap (counted (p x)) (only_more p q xs k d (omega arith) e f (λ j lt apart. same (suc j) (omega arith) (λ e. apart (omega arith))))
      ∙ counted_swap (p x) true (length (only p xs))
      ∙ ap suc (sym (only_counted p x xs))
