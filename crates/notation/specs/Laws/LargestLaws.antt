-- Laws of the largest value of those elements of a list of which a test holds.
-- Assumes nothing.
use Rattle.std.specs.Prelude.{◌≡◌, ◌⊎◌, Bool, length, get_or}
use Rattle.std.proofs.Math.Path.{refl}
use Rattle.std.proofs.Common.{◌∙◌}
use Rattle.std.proofs.Math.Logic.{inl, inr}
use Prim.Native.Nat.{ℕ, zero, suc, max, ◌≤◌, ◌<◌}
use Rattle.std.proofs.Math.Decide.{dec_lt}
use native.Mathlib.Omega.{arith}
use Rattle.std.proofs.Math.Bool.{true, false}
use mathlib.Core.List.{List, [], ◌∷◌, map}
use Rattle.std.specs.Prelude.{if◌then◌else◌}
use Rattle.notation.specs.Lists.{only, largest}

module _ {A : Type 0} (f : A → ℕ) (test : A → Bool) where
  -- the largest of them
  abbrev Largest : List A → ℕ
  Largest xs = largest (map f (only test xs))

  -- an element more: its own value, if the test holds, or that of the others
  pub largest_step : (x : A) (xs : List A) → Largest (x ∷ xs) ≡ max (if test x then f x else 0) (Largest xs)
  unfolding largest only
  largest_step x xs = go (test x)
    where
      go : (b : Bool) → largest (map f (if b then x ∷ only test xs else only test xs)) ≡ max (if b then f x else 0) (Largest xs)
      go true = refl
      go false = omega arith

  -- none of them is larger
  pub largest_most : (xs : List A) (k : ℕ) (d : A) → k < length xs → test (get_or xs k d) ≡ true
      → f (get_or xs k d) ≤ Largest xs
  largest_most [] k d lt holds = absurd (omega arith)
  largest_most (x ∷ xs) zero d lt holds = let step = largest_step x xs in omega (arith, rw holds at step)
  largest_most (x ∷ xs) (suc k) d lt holds = omega (arith, largest_step x xs, largest_most xs k d (omega arith) holds)

  -- 0, or the value of one of them
  abbrev pub Attained : List A → A → ℕ → Type 0
  Attained xs d m = (m ≡ 0) ⊎ ((k : ℕ) × (k < length xs) × (test (get_or xs k d) ≡ true) × (m ≡ f (get_or xs k d)))

  -- what is attained among the others is attained
  attained_more : (x : A) (xs : List A) (d : A) {m n : ℕ} → n ≡ m → Attained xs d m → Attained (x ∷ xs) d n
  attained_more x xs d same (inl none) = inl (same ∙ none)
  attained_more x xs d same (inr found) = inr (suc found.0, omega (arith, found.1), found.2, same ∙ found.3)

  -- the largest is attained
  pub largest_attained : (xs : List A) (d : A) → Attained xs d (Largest xs)
  unfolding largest only
  largest_attained [] d = inl refl
  largest_attained (x ∷ xs) d = rw (largest_step x xs) (go (test x) refl (Largest xs) (largest_attained xs d))
    where
      go : (b : Bool) → test x ≡ b → (m : ℕ) → Attained xs d m → Attained (x ∷ xs) d (max (if b then f x else 0) m)
      go false e m rest = attained_more x xs d (omega arith) rest
      go true e m rest = elim (dec_lt m (f x)) [
        | yes larger ↦ inr (0, omega arith, e, omega arith)
        | no other ↦ attained_more x xs d (omega arith) rest
      ]
