-- Laws of capped values: they fit their fields exactly if the true ones do, and are then the true ones.
-- Assumes nothing.
use Rattle.std.specs.Prelude.{◌≡◌, refl, ℕ, ◌≤◌, min, Bool, true, ◌&&◌, List, [], ◌∷◌, map, leb, ltb, length, take}
use Rattle.std.proofs.Common.{sym, ap, ◌∙◌, arith, leb-true, ltb-true, lt-ltb, le-ltb}
use Rattle.std.proofs.Math.Decide.{dec_lt}
use Rattle.std.proofs.lemmas.Bool.{false≢true}
use Rattle.notation.specs.Lists.{all, padded}
use Rattle.notation.specs.Laws.PaddedLaws.{padded_held}
use Rattle.notation.specs.Laws.TestLaws.{and_both}
use Rattle.notation.specs.Texts.{Text}
use Rattle.texts.specs.declared.Form.{Form}
use Rattle.texts.specs.Grammar.{row_of, fits, wide_field}
use Rattle.texts.specs.Reading.{is_numeral, value_of}
use Rattle.texts.specs.Code.LineParts.{capped_value}
use Rattle.texts_reading.specs.Laws.DigitLaws.{capped_numeral}
use Rattle.texts.proofs.Laws.FormLaws.{field_limited}
use Rattle.texts_reading.specs.Laws.RowOfLaws.{fields_few}

-- a limit that is not above the cap does not tell a capped number from the true one
cap_below : (value limit : ℕ) → limit ≤ wide_field → ltb (min wide_field value) limit ≡ ltb value limit
cap_below value limit narrow =
    elim (dec_lt value limit) [
      | yes small ↦ lt-ltb (min wide_field value) limit (omega arith) ∙ sym (lt-ltb value limit small)
      | no large ↦ le-ltb (min wide_field value) limit (omega arith) ∙ sym (le-ltb value limit (omega arith))
    ]

-- does a limit not go above the cap?
abbrev not_above_cap : ℕ → Bool
not_above_cap limit = leb limit wide_field

-- the number that digits are, cut off at the cap
abbrev pub value_cut : Text → ℕ
value_cut digits = min wide_field (value_of digits)

cut_fit : (limits : List ℕ) (words : List Text) → all not_above_cap limits ≡ true
    → fits limits (map value_cut words) ≡ fits limits (map value_of words)
unfolding fits all
cut_fit [] [] few = refl
cut_fit [] (word ∷ words) few = refl
cut_fit (limit ∷ limits) [] few = refl
cut_fit (limit ∷ limits) (word ∷ words) few =
    let first = and_both (not_above_cap limit) _ few in
    let here : ltb (value_cut word) limit ≡ ltb (value_of word) limit =
    cap_below (value_of word) limit (leb-true limit wide_field first.0) in
    λ i. here i && cut_fit limits words first.1 i

cut_true : (limits : List ℕ) (words : List Text) → all not_above_cap limits ≡ true
    → fits limits (map value_of words) ≡ true → map value_cut words ≡ map value_of words
unfolding fits all
cut_true [] [] few holds = refl
cut_true [] (word ∷ words) few holds = absurd (false≢true holds)
cut_true (limit ∷ limits) [] few holds = refl
cut_true (limit ∷ limits) (word ∷ words) few holds =
    let first = and_both (not_above_cap limit) _ few in
    let fit = and_both (ltb (value_of word) limit) _ holds in
    let small : value_cut word ≡ value_of word =
    omega (arith, leb-true limit wide_field first.0, ltb-true (value_of word) limit fit.0) in
    λ i. small i ∷ cut_true limits words first.1 fit.1 i

-- numerals have these values
capped_cut : (words : List Text) → all is_numeral words ≡ true → map capped_value words ≡ map value_cut words
unfolding all
capped_cut [] good = refl
capped_cut (word ∷ words) good =
    let numeral = and_both (is_numeral word) _ good in
    λ i. sym (capped_numeral word (sym numeral.0)) i ∷ capped_cut words numeral.1 i

-- ---- the numbers of a form

-- those at the front of the array are the ones that were stored
pub front_stored : (form : Form) (g : Text → ℕ) (words : List Text) → length words ≡ length (row_of form).fields
    → take (length (row_of form).fields) (padded 8 0 (map g words)) ≡ map g words
front_stored form g words counted =
    ap (λ (n : ℕ). take n (padded 8 0 (map g words))) (sym counted)
    ∙ padded_held 8 0 g words (omega (arith, fields_few form, counted))

module _ (form : Form) (words : List Text) (counted : length words ≡ length (row_of form).fields) where
  -- the test of the array is the test of the numbers
  pub cut_tested : fits (row_of form).fields
      (take (length (row_of form).fields) (padded 8 0 (map value_cut words)))
      ≡ fits (row_of form).fields (map value_of words)
  cut_tested =
      ap (fits (row_of form).fields) (front_stored form value_cut words counted)
      ∙ cut_fit (row_of form).fields words (field_limited form)

  -- and where it holds the array holds the numbers
  pub cut_stored : fits (row_of form).fields (map value_of words) ≡ true
      → padded 8 0 (map value_cut words) ≡ padded 8 0 (map value_of words)
  cut_stored holds = ap (padded 8 0) (cut_true (row_of form).fields words (field_limited form) holds)

  -- so it is with numerals
  module _ (good : all is_numeral words ≡ true) where
    pub capped_tested : fits (row_of form).fields
        (take (length (row_of form).fields) (padded 8 0 (map capped_value words)))
        ≡ fits (row_of form).fields (map value_of words)
    capped_tested =
        ap (λ (xs : List ℕ). fits (row_of form).fields (take (length (row_of form).fields) (padded 8 0 xs)))
        (capped_cut words good)
        ∙ cut_tested

    pub capped_stored : fits (row_of form).fields (map value_of words) ≡ true
        → padded 8 0 (map capped_value words) ≡ padded 8 0 (map value_of words)
    capped_stored holds = ap (padded 8 0) (capped_cut words good) ∙ cut_stored holds
