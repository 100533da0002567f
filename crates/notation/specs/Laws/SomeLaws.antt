-- Laws of a test of some of the first n numbers, as a loop asks it: what the numbers from k on decide.
-- Assumes nothing.
use Rattle.std.specs.Prelude.{◌≡◌, refl, ℕ, suc, ◌+◌, ◌-◌, ◌≤◌, ◌<◌, Bool, true, false, ◌||◌, List, [], ◌∷◌, map}
use Rattle.std.proofs.Common.{sym, ◌∙◌, add-one}
use Rattle.std.proofs.Math.Path.{ap}
use native.Mathlib.Omega.{arith}
use Rattle.notation.specs.Lists.{any, from, up_to}
use Rattle.notation.specs.Laws.TestLaws.{or_left, or_second}

-- ---- a test of some of n numbers

module _ (test : ℕ → Bool) (n k : ℕ) (on : any test (up_to n) ≡ any test (from k (n - k))) where
  some_onward : k < n → any test (up_to n) ≡ any test (from k (suc (n - (k + 1))))
  some_onward lt = on ∙ ap (λ (m : ℕ). any test (from k m)) (omega arith)

  -- the one at k decides, or else those behind it
  pub some_found : k < n → test k ≡ true → any test (up_to n) ≡ true
  unfolding any from
  some_found lt h = some_onward lt ∙ or_left (test k) _ h

  pub some_later : k < n → test k ≡ false → any test (up_to n) ≡ any test (from (k + 1) (n - (k + 1)))
  unfolding any from
  some_later lt h =
      some_onward lt ∙ or_second (test k) _ h ∙ ap (λ (m : ℕ). any test (from m (n - (k + 1)))) (sym (add-one k))

  pub some_missing : n ≤ k → any test (up_to n) ≡ false
  unfolding any from
  some_missing le = let none : n - k ≡ 0 = omega arith in on ∙ ap (λ (m : ℕ). any test (from k m)) none

-- a test of some image
pub any_map : {A B : Type 0} (f : A → B) (test : B → Bool) (xs : List A)
    → any test (map f xs) ≡ any (λ x. test (f x)) xs
unfolding any
any_map f test [] = refl
any_map f test (x ∷ xs) = ap (λ (b : Bool). test (f x) || b) (any_map f test xs)
