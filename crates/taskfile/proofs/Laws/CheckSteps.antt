-- Laws of checks by their steps: what a step that passed or was refused makes of the whole, and what a check comes to.
-- Assumes nothing.
use Rattle.std.specs.Prelude.{◌≡◌, Bool, true, false, List, ◌∷◌}
use Rattle.std.proofs.Math.Path.{refl, ap}
use Rattle.std.proofs.Common.{sym, ◌∙◌, arith}
use Prim.Native.Nat.{ℕ, zero, suc, ◌+◌, ◌≤◌, ◌<◌}
use Rattle.std.proofs.Math.Decide.{ℕ_discrete}
use Rattle.notation.specs.Checked.{Checked, refused, passed, mapped, bare, none_of, ◌>>◌}
use Rattle.notation.specs.Lists.{from, up_to}

-- to pass a value on afterwards changes no refusal
pub then_bare : {A : Type 0} (c : Checked ℕ (Unit {0})) (x : A) → c ≡ bare (◌>>◌ c (passed x))
unfolding mapped ◌>>◌
then_bare (refused number place) x = refl
then_bare (passed y) x = refl

-- a listed place that has the fault decides, and one that has not leaves it to those after it
none_of_here : (number : ℕ) (fault : ℕ → Bool) (place : ℕ) (places : List ℕ) → fault place ≡ true
    → none_of number fault (place ∷ places) ≡ refused number place
unfolding none_of
none_of_here number fault place places e = rw e

none_of_later : (number : ℕ) (fault : ℕ → Bool) (place : ℕ) (places : List ℕ) → fault place ≡ false
    → none_of number fault (place ∷ places) ≡ none_of number fault places
unfolding none_of
none_of_later number fault place places e = rw e

module _ (number : ℕ) (fault : ℕ → Bool) where
  -- of the n numbers from `start` on, the lowest that has the fault decides
  none_of_from : (start n r : ℕ) → start ≤ r → r < start + n → ((k : ℕ) → start ≤ k → k < r → fault k ≡ false)
      → fault r ≡ true → none_of number fault (from start n) ≡ refused number r
  unfolding from
  none_of_from start zero r low high sound here = absurd (omega arith)
  none_of_from start (suc n) r low high sound here =
      elim (ℕ_discrete r start) [
        | yes same ↦ none_of_here number fault start (from (suc start) n) (rw same at here) ∙ ap (refused number) (sym same)
        | no other ↦
            none_of_later number fault start (from (suc start) n) (sound start (omega arith) (omega arith))
            ∙ none_of_from (suc start) n r (omega arith) (omega arith) (λ k above below. sound k (omega arith) below) here
      ]

  -- and where none has it, the check passes
  none_of_from_none : (start n : ℕ) → ((k : ℕ) → start ≤ k → k < start + n → fault k ≡ false)
      → none_of number fault (from start n) ≡ passed tt
  unfolding from none_of
  none_of_from_none start zero sound = refl
  none_of_from_none start (suc n) sound =
      none_of_later number fault start (from (suc start) n) (sound start (omega arith) (omega arith))
      ∙ none_of_from_none (suc start) n (λ k above below. sound k (omega arith) (omega arith))

  -- the same of the numbers below n
  pub none_of_up_to : (n r : ℕ) → r < n → ((k : ℕ) → k < r → fault k ≡ false) → fault r ≡ true
      → none_of number fault (up_to n) ≡ refused number r
  unfolding up_to
  none_of_up_to n r below sound here = none_of_from 0 n r (omega arith) (omega arith) (λ k above. sound k) here

  pub none_of_up_to_none : (n : ℕ) → ((k : ℕ) → k < n → fault k ≡ false) → none_of number fault (up_to n) ≡ passed tt
  unfolding up_to
  none_of_up_to_none n sound = none_of_from_none 0 n (λ k above below. sound k (omega arith))
