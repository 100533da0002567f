-- Laws of words that are compared: whole, and byte by byte.
-- Assumes nothing.
use Rattle.std.specs.Prelude.{◌≡◌, refl, ℕ, ◌+◌, ◌≤◌, ◌<◌, Bool, true, false, ◌&&◌, [], ◌∷◌, eqb, length, get_or, drop}
use Rattle.std.specs.Cmp.Lexicographic.{pointwise}
use Rattle.std.proofs.Common.{sym, ap, ◌∙◌, add-one, arith, eqb-true, eq-eqb, ne_eqb}
use Rattle.std.proofs.Math.ListN.{drop_of_length-le}
use Rattle.std.proofs.Math.Seq.{drop-cons}
use Rattle.notation.specs.Lists.{same}
use Rattle.notation.specs.Laws.ElementLaws.{same_equal}
use Rattle.notation.specs.Laws.TestLaws.{and_first, and_second, both_ways, not_true_false}
use Rattle.notation.specs.Texts.{Text}

-- a comparison of two slices is the definition's
pub same_compared : (x y : Text) → pointwise eqb x y ≡ same x y
unfolding same
same_compared [] [] = refl
same_compared [] (b ∷ y) = refl
same_compared (a ∷ x) [] = refl
same_compared (a ∷ x) (b ∷ y) = ap (λ (rest : Bool). eqb a b && rest) (same_compared x y)

-- in whichever order
eqb_swapped : (a b : ℕ) → eqb a b ≡ eqb b a
eqb_swapped a b =
    both_ways (eqb a b) (eqb b a) (λ e. eq-eqb b a (sym (eqb-true a b e))) (λ e. eq-eqb a b (sym (eqb-true b a e)))

pub same_swapped : (x y : Text) → pointwise eqb x y ≡ same y x
unfolding same
same_swapped [] [] = refl
same_swapped [] (b ∷ y) = refl
same_swapped (a ∷ x) [] = refl
same_swapped (a ∷ x) (b ∷ y) = λ i. eqb_swapped a b i && same_swapped x y i

-- ---- byte by byte

-- words of two lengths are not the same
pub same_sized : (x y : Text) → (length x ≡ length y → ⊥) → same x y ≡ false
same_sized x y apart = not_true_false (same x y) (λ e. apart (ap length (same_equal x y e)))

-- two words of one length are the same in their first k bytes
pub record AlikeTo (x y : Text) (k : ℕ) : Type 0 where
  pub rest : same x y ≡ same (drop k x) (drop k y)
  pub most : k ≤ length x

pub alike_none : (x y : Text) → AlikeTo x y 0
alike_none x y = record { rest = refl; most = omega arith }

module _ (x y : Text) (k : ℕ) (sized : length x ≡ length y) (done : AlikeTo x y k) where
  alike_next : k < length x → same x y ≡ (eqb (get_or x k 0) (get_or y k 0) && same (drop (k + 1) x) (drop (k + 1) y))
  unfolding same
  alike_next lt =
      done.rest ∙ rw (add-one k) (rw (drop-cons x k 0 (omega arith), drop-cons y k 0 (omega arith)) refl)

  pub alike_more : k < length x → get_or x k 0 ≡ get_or y k 0 → AlikeTo x y (k + 1)
  alike_more lt equal = record {
    rest = alike_next lt ∙ and_second (eqb (get_or x k 0) (get_or y k 0)) _ (eq-eqb _ _ equal);
    most = omega arith;
  }

  pub alike_differs : k < length x → (get_or x k 0 ≡ get_or y k 0 → ⊥) → false ≡ same x y
  alike_differs lt other = sym (alike_next lt ∙ and_first (eqb (get_or x k 0) (get_or y k 0)) _ (ne_eqb _ _ other))

  pub alike_all : length x ≤ k → true ≡ same x y
  unfolding same
  alike_all all =
      sym (done.rest ∙ rw (drop_of_length-le x {i = k} (omega arith), drop_of_length-le y {i = k} (omega arith)) refl)
