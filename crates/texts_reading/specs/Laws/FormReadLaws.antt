-- Laws of a line whose form is known: what it comes to, check after check.
-- Assumes nothing.
use Rattle.std.specs.Prelude.{◌≡◌, refl, ℕ, Bool, true, false, ◌&&◌, List, map, eqb, length, take, Ok, Err}
use Rattle.std.proofs.Math.Path.{sym, ap}
use Rattle.std.proofs.Common.{◌∙◌, eqb-true, eq-eqb, ne_eqb}
use Rattle.notation.specs.Checked.{Checked, refused, passed, mapped, require, ◌>>◌}
use Rattle.notation.specs.Lists.{all, padded}
use Rattle.notation.specs.Laws.CheckedLaws.{require_holds, require_fails}
use Rattle.notation.specs.Laws.TestLaws.{and_both, and_first, and_second}
use Rattle.notation.specs.Texts.{Text}
use Rattle.texts.specs.declared.Form.{Form}
use Rattle.texts.specs.declared.Numerals.{Numerals}
use Rattle.texts.specs.Grammar.{Line, line_with, row_of, fits, may_come}
use Rattle.texts.specs.Reading.{is_numeral, value_of}
use Rattle.texts.specs.Code.LineParts.{capped_value, held, numerals_told, numerals_of}
use Rattle.texts_reading.specs.Code.FormReading.{well_shaped, form_read}
use Rattle.texts_reading.specs.Laws.CappedLaws.{capped_tested, capped_stored}

-- ---- the shape of a line

module _ (stage : ℕ) (form : Form) (count : ℕ) {comes : Bool} (is : comes ≡ may_come stage (row_of form)) where
  pub shape_misplaced : comes ≡ false → false ≡ well_shaped stage form count
  unfolding well_shaped
  shape_misplaced fails = sym (and_first (may_come stage (row_of form)) _ (sym is ∙ fails))

  module _ (holds : comes ≡ true) {fields : ℕ} (isFields : fields ≡ length (row_of form).fields) where
    shape_counted : well_shaped stage form count ≡ eqb count (length (row_of form).fields)
    unfolding well_shaped
    shape_counted = and_second (may_come stage (row_of form)) _ (sym is ∙ holds)

    pub shape_miscounted : (count ≡ fields → ⊥) → false ≡ well_shaped stage form count
    shape_miscounted other = sym (shape_counted ∙ ne_eqb _ _ (λ e. other (e ∙ sym isFields)))

    pub shape_spelt : count ≡ fields → true ≡ well_shaped stage form count
    shape_spelt same = sym (shape_counted ∙ eq-eqb _ _ (same ∙ isFields))

-- ---- the checks of a line

-- two tests with one number are one test
require_both : (p q : Bool) (number place : ℕ) (rest : Checked ℕ Line)
    → ◌>>◌ (require p number place) (◌>>◌ (require q number place) rest)
    ≡ ◌>>◌ (require (p && q) number place) rest
unfolding require ◌>>◌
require_both true q number place rest = refl
require_both false q number place rest = refl

module _ (k stage : ℕ) (form : Form) (words : List Text) where
  -- what is left once a line has its shape
  abbrev numbers_read : Checked ℕ Line
  numbers_read =
      ◌>>◌ (require (fits (row_of form).fields (map value_of words)) 61 k) (passed (line_with form (map value_of words)))

  form_shaped : form_read k stage form words
      ≡ ◌>>◌ (require (well_shaped stage form (length words)) 60 k)
      (◌>>◌ (require (all is_numeral words) 60 k) numbers_read)
  unfolding form_read well_shaped
  form_shaped = require_both (may_come stage (row_of form)) _ 60 k _

  -- a word is no numeral
  pub form_unspelt : (read : Numerals) → Err read ≡ numerals_of words → form_read k stage form words ≡ refused 60 k
  unfolding numerals_of require ◌>>◌
  form_unspelt read is =
      form_shaped
      ∙ ap (◌>>◌ (require (well_shaped stage form (length words)) 60 k)) (require_fails _ 60 k _ (unspelt _ _ is))
      ∙ either (well_shaped stage form (length words))
    where
      unspelt : (b : Bool) (found : Numerals) → Err read ≡ numerals_told b found → b ≡ false
      unspelt true found e = cc
      unspelt false found e = refl

      either : (b : Bool) → ◌>>◌ {A = Unit {0}} {B = Line} (require b 60 k) (refused 60 k) ≡ refused 60 k
      either true = refl
      either false = refl

  -- the numerals as the code has them, and the test of the shape
  module _ (read : Numerals) (is : Ok read ≡ numerals_of words) {sound : Bool}
      (isSound : sound ≡ well_shaped stage form read.count) where
    spelt : (all is_numeral words ≡ true)
        × (read ≡ record { count = length words; values = padded 8 0 (map capped_value words) })
    unfolding numerals_of
    spelt = go (all is_numeral words) is
      where
        go : (b : Bool) {found : Numerals} → Ok read ≡ numerals_told b found → (b ≡ true) × (read ≡ found)
        go true e = (refl, cc)
        go false e = cc

    sound_is : sound ≡ well_shaped stage form (length words)
    sound_is = isSound ∙ ap (λ (r : Numerals). well_shaped stage form r.count) spelt.1

    pub form_misshapen : sound ≡ false → form_read k stage form words ≡ refused 60 k
    form_misshapen fails = form_shaped ∙ require_fails _ 60 k _ (sym sound_is ∙ fails)

    -- the test of the numbers
    module _ (holds : sound ≡ true) {small : Bool}
        (isSmall : small ≡ fits (row_of form).fields (take (length (row_of form).fields) read.values)) where
      numbers_counted : length words ≡ length (row_of form).fields
      unfolding well_shaped
      numbers_counted = eqb-true _ _ (and_both (may_come stage (row_of form)) _ (sym sound_is ∙ holds)).1

      values_capped : read.values ≡ padded 8 0 (map capped_value words)
      values_capped = ap (λ (r : Numerals). r.values) spelt.1

      small_is : small ≡ fits (row_of form).fields (map value_of words)
      small_is =
          isSmall
          ∙ ap (λ (xs : List ℕ). fits (row_of form).fields (take (length (row_of form).fields) xs)) values_capped
          ∙ capped_tested form words numbers_counted spelt.0

      form_tested : form_read k stage form words ≡ numbers_read
      form_tested =
          form_shaped ∙ require_holds _ 60 k _ (sym sound_is ∙ holds) ∙ require_holds _ 60 k _ spelt.0

      pub form_overfull : small ≡ false → form_read k stage form words ≡ refused 61 k
      form_overfull fails = form_tested ∙ require_fails _ 61 k _ (sym small_is ∙ fails)

      pub form_passes : small ≡ true
          → passed (record { form = form; numbers = read.values }) ≡ mapped held (form_read k stage form words)
      unfolding mapped held
      form_passes fit =
          let fitting = sym small_is ∙ fit in
          let numbers = values_capped ∙ capped_stored form words numbers_counted spelt.0 fitting in
          (λ i. passed (record { form = form; numbers = numbers i }))
          ∙ sym (ap (mapped held) (form_tested ∙ require_holds _ 61 k _ fitting))
