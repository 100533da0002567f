-- Laws of numbers held against the limits of their fields, one after the other.
-- Assumes nothing.
use Rattle.std.specs.List.{list_all, range_with_len}
use Rattle.std.specs.Prelude.{◌≡◌, refl, ℕ, zero, suc, ◌+◌, ◌≤◌, ◌<◌, Bool, true, false, ◌&&◌, List, ltb, length, get_or, take, drop}
use Rattle.std.proofs.Math.Path.{sym, ap}
use Rattle.std.proofs.Common.{◌∙◌, add-one, arith, length-take-le, lt-ltb, le-ltb}
use Rattle.std.proofs.Math.ListN.{drop_of_length-le}
use Rattle.std.proofs.Math.Seq.{drop-cons, get_or-take}
use Rattle.notation.specs.Laws.TestLaws.{and_first, and_second}
use Rattle.texts.specs.declared.Form.{Form}
use Rattle.texts.specs.Grammar.{row_of, fits}
use Rattle.texts_reading.specs.Laws.RowOfLaws.{fields_few}

module _ (limits values : List ℕ) (enough : length limits ≤ length values) where
  -- does number k fit its field?
  abbrev pub fits_at : ℕ → Bool
  fits_at k = ltb (get_or values k 0) (get_or limits k 0)

  -- the first numbers, one for each field
  abbrev numbers : List ℕ
  numbers = take (length limits) values

  numbers_many : length numbers ≡ length limits
  numbers_many = length-take-le (length limits) values enough

  -- from field k on: number k has to fit, and those after it
  fits_next : (k : ℕ) → k < length limits
      → fits (drop k limits) (drop k numbers) ≡ (fits_at k && fits (drop (k + 1) limits) (drop (k + 1) numbers))
  unfolding fits
  fits_next k lt =
      rw (add-one k) (rw (
        drop-cons limits k 0 lt,
        drop-cons numbers k 0 (omega (arith, numbers_many)),
        get_or-take (length limits) values k 0 lt,
      ) refl)

  fits_from : (k n : ℕ) → k + n ≡ length limits
      → list_all fits_at (range_with_len k n) ≡ fits (drop k limits) (drop k numbers)
  unfolding fits
  fits_from k zero all =
      rw (
        drop_of_length-le limits {i = k} (omega arith),
        drop_of_length-le numbers {i = k} (omega (arith, numbers_many)),
      ) refl
  fits_from k (suc n) left =
      ap (λ (rest : Bool). fits_at k && rest) (fits_from (k + 1) n (omega arith)) ∙ sym (fits_next k (omega arith))

  -- the numbers fit if each does
  pub fits_listed : list_all fits_at (range_with_len 0 (length limits)) ≡ fits limits numbers
  fits_listed = fits_from 0 (length limits) (omega arith)

-- ---- the fields of a form, one after the other

-- the first numbers of an array, one for each field of a form
abbrev numbers_of : Form → List ℕ → List ℕ
numbers_of form values = take (length (row_of form).fields) values

-- the first k of them fit
pub record FieldsTo (form : Form) (values : List ℕ) (k : ℕ) : Type 0 where
  pub rest : fits (row_of form).fields (numbers_of form values)
      ≡ fits (drop k (row_of form).fields) (drop k (numbers_of form values))
  pub most : k ≤ length (row_of form).fields

pub fields_none : (form : Form) (values : List ℕ) → FieldsTo form values 0
fields_none form values = record { rest = refl; most = omega arith }

module _ (form : Form) (values : List ℕ) (full : length values ≡ 8) (k : ℕ) (done : FieldsTo form values k) where
  numbers_full : length (numbers_of form values) ≡ length (row_of form).fields
  numbers_full = length-take-le (length (row_of form).fields) values (omega (arith, fields_few form))

  module _ (limit : ℕ) (isLimit : limit ≡ get_or (row_of form).fields k 0) (lt : k < length (row_of form).fields) where
    fields_next : fits (row_of form).fields (numbers_of form values)
        ≡ (ltb (get_or values k 0) limit
        && fits (drop (k + 1) (row_of form).fields) (drop (k + 1) (numbers_of form values)))
    unfolding fits
    fields_next =
        done.rest
        ∙ rw (add-one k) (rw (
          drop-cons (row_of form).fields k 0 lt,
          drop-cons (numbers_of form values) k 0 (omega (arith, numbers_full)),
          get_or-take (length (row_of form).fields) values k 0 lt,
          isLimit,
        ) refl)

    pub fields_more : get_or values k 0 < limit → FieldsTo form values (k + 1)
    fields_more small =
        record { rest = fields_next ∙ and_second _ _ (lt-ltb (get_or values k 0) limit small); most = omega arith }

    pub fields_burst : limit ≤ get_or values k 0 → false ≡ fits (row_of form).fields (numbers_of form values)
    fields_burst large = sym (fields_next ∙ and_first _ _ (le-ltb (get_or values k 0) limit large))

  pub fields_all : length (row_of form).fields ≤ k → true ≡ fits (row_of form).fields (numbers_of form values)
  unfolding fits
  fields_all all =
      sym (done.rest ∙ rw (
        drop_of_length-le (row_of form).fields {i = k} all,
        drop_of_length-le (numbers_of form values) {i = k} (omega (arith, numbers_full)),
      ) refl)
