-- Laws of digits as they are read, one after the other: whether all bytes are digits, and the number that they are,
-- cut off where it fits no field.
-- Assumes nothing.
use Rattle.std.specs.List.{list_all}
use Rattle.std.specs.Prelude.{◌≡◌, refl, Bool, true, false, not, ◌&&◌, ◌||◌, [], ◌∷◌, leb, eqb, length, get_or, drop}
use Rattle.std.proofs.Math.Path.{sym, ap}
use Rattle.std.proofs.Common.{◌∙◌, add-one, arith, drop-cons, le-leb, eq-eqb, ne_eqb}
use Prim.Native.Nat.{ℕ, suc, ◌+◌, ◌*◌, ◌-◌, ◌≤◌, ◌<◌, min}
use Rattle.std.proofs.Math.Decide.{dec_le}
use Rattle.std.proofs.Math.ListN.{drop_of_length-le}
use Rattle.std.proofs.lemmas.Bool.{lt-leb}
use Rattle.notation.specs.Lists.{all}
use Rattle.notation.specs.Laws.TestLaws.{and_first, and_second}
use Rattle.notation.specs.Texts.{Text}
use Rattle.texts.specs.Grammar.{wide_field}
use Rattle.texts.specs.Reading.{is_digit, is_empty, is_numeral, value_after, value_of}
use Rattle.texts.specs.Code.LineParts.{capped_value}
use Rattle.texts.proofs.Laws.NumeralLaws.{value_grows}

-- ---- a digit

pub digit_below : (b : ℕ) → b < 48 → false ≡ is_digit b
unfolding is_digit
digit_below b lt = sym (and_first (leb 48 b) (leb b 57) (lt-leb 48 b lt))

pub digit_above : (b : ℕ) → 48 ≤ b → leb b 57 ≡ is_digit b
unfolding is_digit
digit_above b le = sym (and_second (leb 48 b) (leb b 57) (le-leb 48 b le))

-- ---- digits all through

-- the first k bytes of a word are digits
pub record DigitsTo (word : Text) (k : ℕ) : Type 0 where
  pub rest : all is_digit word ≡ all is_digit (drop k word)
  pub most : k ≤ length word

pub digits_none : (word : Text) → DigitsTo word 0
digits_none word = record { rest = refl; most = omega arith }

module _ (word : Text) (k : ℕ) (done : DigitsTo word k) where
  digits_next : k < length word → all is_digit word ≡ (is_digit (get_or word k 0) && all is_digit (drop (k + 1) word))
  unfolding all
  digits_next lt = done.rest ∙ rw (add-one k) (rw (drop-cons word k 0 lt) refl)

  pub digits_onward : k < length word → true ≡ is_digit (get_or word k 0) → DigitsTo word (k + 1)
  digits_onward lt digit =
      record { rest = digits_next lt ∙ and_second (is_digit (get_or word k 0)) _ (sym digit); most = omega arith }

  pub digits_other : k < length word → false ≡ is_digit (get_or word k 0) → false ≡ all is_digit word
  digits_other lt other = sym (digits_next lt ∙ and_first (is_digit (get_or word k 0)) _ (sym other))

  pub digits_all : length word ≤ k → true ≡ all is_digit word
  unfolding all
  digits_all enough = sym (done.rest ∙ rw (drop_of_length-le word {i = k} enough) refl)

-- as a call of the library's `all` finds it
pub digits_listed : (word : Text) → list_all is_digit word ≡ all is_digit word
unfolding all
digits_listed [] = refl
digits_listed (b ∷ word) = ap (λ (rest : Bool). is_digit b && rest) (digits_listed word)

-- ---- a numeral

pub numeral_none : (word : Text) → length word ≡ 0 → false ≡ is_numeral word
unfolding is_numeral
numeral_none [] e = refl
numeral_none (b ∷ word) e = absurd (omega arith)

pub numeral_other : (word : Text) → false ≡ all is_digit word → false ≡ is_numeral word
unfolding is_numeral
numeral_other [] e = refl
numeral_other (b ∷ word) e = sym (and_first (all is_digit (b ∷ word)) _ (sym e))

-- a first digit that is no zero
pub numeral_led : (word : Text) → (length word ≡ 0 → ⊥) → true ≡ all is_digit word → (get_or word 0 0 ≡ 48 → ⊥)
    → true ≡ is_numeral word
unfolding is_numeral
numeral_led [] some digits other = absurd (some refl)
numeral_led (b ∷ word) some digits other =
    sym (and_second (all is_digit (b ∷ word)) _ (sym digits)
    ∙ ap (λ (t : Bool). not t || is_empty word) (ne_eqb b 48 other))

-- a zero stands alone
pub numeral_zero : (word : Text) → (length word ≡ 0 → ⊥) → true ≡ all is_digit word → get_or word 0 0 ≡ 48
    → eqb (length word) 1 ≡ is_numeral word
unfolding is_numeral is_empty
numeral_zero [] some digits zero = absurd (some refl)
numeral_zero (b ∷ []) some digits zero =
    sym (and_second (all is_digit (b ∷ [])) _ (sym digits) ∙ ap (λ (t : Bool). not t || true) (eq-eqb b 48 zero))
numeral_zero (b ∷ d ∷ word) some digits zero =
    ne_eqb (length (b ∷ d ∷ word)) 1 (λ e. omega arith)
    ∙ sym (and_second (all is_digit (b ∷ d ∷ word)) _ (sym digits)
    ∙ ap (λ (t : Bool). not t || false) (eq-eqb b 48 zero))

-- as the code tests it
pub numeral_tested : (word : Text)
    → is_numeral word
    ≡ (not (eqb (length word) 0) && (all is_digit word && (not (eqb (get_or word 0 0) 48) || eqb (length word) 1)))
unfolding is_numeral is_empty
numeral_tested [] = refl
numeral_tested (b ∷ []) = refl
numeral_tested (b ∷ d ∷ word) =
    rw (ne_eqb (length (b ∷ d ∷ word)) 1 (λ e. omega arith), ne_eqb (length (b ∷ d ∷ word)) 0 (λ e. omega arith))
    refl

-- ---- the number that digits are

-- a number that is cut off before the digits is cut off after them
value_capped : (n : ℕ) (digits : Text)
    → min wide_field (value_after (min wide_field n) digits) ≡ min wide_field (value_after n digits)
value_capped n digits =
    elim (dec_le n wide_field) [
      | yes small ↦
          (let same : min wide_field n ≡ n = omega arith in
          ap (λ (m : ℕ). min wide_field (value_after m digits)) same)
      | no large ↦ omega (arith, value_grows n digits, value_grows (min wide_field n) digits)
    ]

-- the number so far, after the first k digits
pub record ValuedTo (word : Text) (value k : ℕ) : Type 0 where
  pub rest : min wide_field (value_of word) ≡ min wide_field (value_after value (drop k word))
  pub small : value ≤ wide_field
  pub most : k ≤ length word

pub valued_none : (word : Text) → ValuedTo word 0 0
unfolding value_of
valued_none word = record { rest = refl; small = omega arith; most = omega arith }

module _ (word : Text) (value k : ℕ) (done : ValuedTo word value k) where
  pub valued_more : k < length word → (digit next : ℕ) → digit ≡ get_or word k 0 - 48
      → next ≡ min wide_field (10 * value + digit) → ValuedTo word next (k + 1)
  unfolding value_after
  valued_more lt digit next is_digit isNext = record {
    rest =
        done.rest
        ∙ ap (λ (l : Text). min wide_field (value_after value l)) (drop-cons word k 0 lt)
        ∙ ap (λ (d : ℕ). min wide_field (value_after (10 * value + d) (drop (suc k) word))) (sym is_digit)
        ∙ sym (value_capped (10 * value + digit) (drop (suc k) word))
        ∙ ap (λ (n : ℕ). min wide_field (value_after n (drop (suc k) word))) (sym isNext)
        ∙ ap (λ (j : ℕ). min wide_field (value_after next (drop j word))) (sym (add-one k));
    small = omega (arith, isNext);
    most = omega arith;
  }

  pub valued_all : length word ≤ k → value ≡ min wide_field (value_of word)
  unfolding value_after
  valued_all enough =
      let whole : min wide_field value ≡ value = omega (arith, done.small) in
      let none = drop_of_length-le word {i = k} enough in
      sym (done.rest ∙ ap (λ (l : Text). min wide_field (value_after value l)) none ∙ whole)

-- ---- a numeral's value

pub capped_other : (word : Text) → false ≡ is_numeral word → 0 ≡ capped_value word
unfolding capped_value
capped_other word e = rw (sym e) refl

pub capped_numeral : (word : Text) → true ≡ is_numeral word → min wide_field (value_of word) ≡ capped_value word
unfolding capped_value
capped_numeral word e = rw (sym e) refl
