-- An array of a function's values: filled place by place, or made of calls at its indices.
-- Assumes nothing.
use Rattle.std.specs.Prelude.{◌≡◌, refl, ℕ, zero, suc, ◌+◌, ◌≤◌, ◌<◌, List, [], ◌∷◌, ◌++◌, map, length, take, set, replicate}
use Rattle.std.specs.Array.{IsFromFnResult, IsFromFnResultFrom}
use Rattle.std.specs.Fn.{Mut, Called}
use Rattle.std.proofs.Common.{sym, ap, subst, ◌∙◌, add-one, arith, get_or, length-set, take_all, take-suc-set}
use Rattle.std.proofs.lemmas.List.{length-replicate}
use Rattle.std.proofs.Math.Decide.{ℕ_discrete}
use Rattle.notation.specs.Laws.TabulateLaws.{values_are, values_snoc}
use Rattle.notation.specs.Lists.{from, up_to}

module _ {F B : Type 0} (g : Mut F (ℕ × Unit {0}) B) (f : F) (h : ℕ → B)
    (value : (i : ℕ) (y : B) (f' : F) → Called g f (i, tt) y f' → (y ≡ h i) × (f' ≡ f)) where
  -- the calls at the n numbers from i on gave the function's values there
  values_from : (ys : List B) (i n k : ℕ) (d : B) → IsFromFnResultFrom g f ys i n → i ≤ k → k < i + n
      → get_or ys k d ≡ h k
  values_from ys i zero k d calls from to = absurd (omega arith)
  values_from ys i (suc n) k d (next, y, here, called, others) from to =
      elim (ℕ_discrete k i) [
        | yes same ↦ ap (λ (j : ℕ). get_or ys j d) same ∙ here.1 d ∙ (value i y next called).0 ∙ ap h (sym same)
        | no other ↦
            values_from ys (i + 1) n k d
            (subst (λ (p : F). IsFromFnResultFrom g p ys (i + 1) n) (value i y next called).1 others)
            (omega arith) (omega arith)
      ]

  -- an array that calls of a closure made, where a call changes nothing and gives the function's value
  pub made_of_values : (n : ℕ) {ys : List B} → B → IsFromFnResult g f ys n → ys ≡ map h (up_to n)
  made_of_values n {ys} d made =
      values_are h n ys d made.long (λ k lt. values_from ys 0 n k d made.each (omega arith) (omega arith))

-- ---- filled place by place

-- the first n of the array's m places hold the function's values there
pub record Tabulated {A : Type 0} (f : ℕ → A) (m : ℕ) (array : List A) (n : ℕ) : Type 0 where
  pub within : n ≤ m
  pub full : length array ≡ m
  pub holds : take n array ≡ map f (up_to n)

-- before the first turn, after each, and after the last
pub tabulated_none : {A : Type 0} (f : ℕ → A) (m : ℕ) (d : A) → Tabulated f m (replicate m d) 0
unfolding up_to from
tabulated_none f m d = record { within = omega arith; full = length-replicate m d; holds = refl }

pub tabulated_more : {A : Type 0} (f : ℕ → A) (m : ℕ) {array : List A} {n : ℕ} {x : A} → Tabulated f m array n → n < m
    → x ≡ f n → Tabulated f m (set array n x) (n + 1)
tabulated_more {A} f m {array} {n} {x} h below is =
    record {
      within = omega arith;
      full = length-set array n x ∙ h.full;
      holds =
          ap (λ (k : ℕ). take k (set array n x)) (add-one n)
          ∙ take-suc-set array n x (omega (arith, h.full))
          ∙ ap (λ (l : List A). l ++ (x ∷ [])) h.holds
          ∙ ap (λ (y : A). map f (up_to n) ++ (y ∷ [])) is
          ∙ sym (values_snoc f n);
    }

pub tabulated_all : {A : Type 0} (f : ℕ → A) (m : ℕ) {array : List A} {n : ℕ} → Tabulated f m array n → m ≤ n
    → array ≡ map f (up_to m)
tabulated_all {A} f m {array} {n} h end =
    let same : n ≡ m = omega (arith, h.within) in
    sym (take_all m array (omega (arith, h.full)))
    ∙ ap (λ (k : ℕ). take k array) (sym same)
    ∙ h.holds
    ∙ ap (λ (k : ℕ). map f (up_to k)) same
