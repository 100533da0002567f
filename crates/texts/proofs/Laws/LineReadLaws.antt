-- Reading a line: it passes exactly the bytes of the grammar's lines that may come. `Formed` says what a line is, the
-- size of its numbers aside: what is not formed is refused by 60, and what is formed passes or is refused by 61.
-- Assumes nothing.
use Rattle.std.specs.Prelude.{◌≡◌, refl, ◌⊎◌, ℕ, suc, ◌≤◌, ◌<◌, Bool, true, false, List, [], ◌∷◌, ◌++◌, map, length, leb, ltb, eqb}
use Rattle.std.proofs.Common.{sym, ap, ◌∙◌, subst, inl, inr, arith, ltb-true, leb-true, eq-eqb, eqb-true}
use Rattle.std.proofs.lemmas.Bool.{false≢true}
use Rattle.std.proofs.Math.Option.{Option, none, some}
use Rattle.notation.specs.Checked.{Checked, refused, passed, require, given, ◌>>=◌, ◌>>◌}
use Rattle.notation.specs.Lists.{all, first_or}
use Rattle.notation.specs.Ordered.{Every}
use Rattle.notation.specs.Laws.CheckedLaws.{refused_passed, passed_same, require_holds, then_passed, require_passed}
use Rattle.notation.specs.Laws.QuantifierLaws.{map_length}
use Rattle.notation.specs.Laws.TestLaws.{and_both, test_holds}
use Rattle.notation.specs.Texts.{Text, decimal, spaced, line}
use Rattle.texts.specs.declared.Form.{Form}
use Rattle.texts.specs.Grammar.{Line, line_with, line_text, row_of, known, fits, may_come, wide_field, IsLine}
use Rattle.texts.specs.Reading.{is_numeral, value_of, parts, form_named, line_read}
use Rattle.texts.proofs.Laws.FormLaws.{form_named_lem, named_known, word_printed, field_limited}
use Rattle.texts.proofs.Laws.NumeralLaws.{numeral_printed, decimals_numerals, decimals_values, numerals_back}
use Rattle.texts.proofs.Laws.SeparatorLaws.{Lacks, parts_some, spaced_parts, parts_spaced}
use Rattle.texts.proofs.Laws.SeparatorLaws.{printed_lacks, spaced_lacks}

-- a line's bytes before the newline
unfoldable pub line_bytes : Line → Text
line_bytes l = spaced (row_of l.form).word (map decimal l.numbers)

pub line_bytes_lem : (l : Line) → line_text l ≡ line_bytes l ++ (10 ∷ [])
unfolding line_text line line_bytes
line_bytes_lem l = refl

-- The bytes of a line that may come at a stage, the size of its numbers aside: a known form's word, and as many
-- numerals as the form has fields.
pub record Formed (stage : ℕ) (bytes : Text) : Type 0 where
  pub form : Form
  pub words : List Text
  pub is_known : known form ≡ true
  pub placed : may_come stage (row_of form) ≡ true
  pub complete : length words ≡ length (row_of form).fields
  pub numerals : all is_numeral words ≡ true
  pub spelled : spaced (row_of form).word words ≡ bytes

-- the line that formed bytes are, if its numbers fit
abbrev pub formed_line : {stage : ℕ} {bytes : Text} → Formed stage bytes → Line
formed_line f = line_with f.form (map value_of f.words)

-- ---- numerals

-- numerals have neither a space nor a newline
words_lack : (separator : ℕ) → separator ≤ 32 → (words : List Text) → all is_numeral words ≡ true
    → Every (Lacks separator) words
unfolding all
words_lack separator low [] numerals = tt
words_lack separator low (word ∷ words) numerals =
    let both = and_both (is_numeral word) (all is_numeral words) numerals in
    (printed_lacks separator low word (numeral_printed word both.0), words_lack separator low words both.1)

-- numbers that fit are as many as the fields, and below 2^32
pub fits_length : (limits numbers : List ℕ) → fits limits numbers ≡ true → length numbers ≡ length limits
unfolding fits
fits_length [] [] fit = refl
fits_length [] (x ∷ numbers) fit = absurd (false≢true fit)
fits_length (limit ∷ limits) [] fit = absurd (false≢true fit)
fits_length (limit ∷ limits) (x ∷ numbers) fit = ap suc (fits_length limits numbers (and_both (ltb x limit) _ fit).1)

fits_wide : (limits numbers : List ℕ) → all (λ limit. leb limit wide_field) limits ≡ true
    → fits limits numbers ≡ true → Every (λ n. n < wide_field) numbers
unfolding fits all
fits_wide [] [] limited fit = tt
fits_wide [] (x ∷ numbers) limited fit = absurd (false≢true fit)
fits_wide (limit ∷ limits) [] limited fit = tt
fits_wide (limit ∷ limits) (x ∷ numbers) limited fit =
    let low = and_both (leb limit wide_field) (all (λ limit. leb limit wide_field) limits) limited in
    let both = and_both (ltb x limit) (fits limits numbers) fit in (
      omega (arith, leb-true limit wide_field low.0, ltb-true x limit both.0),
      fits_wide limits numbers low.1 both.1,
    )

-- ---- the checks of a line

-- the last one, once the form and the numbers are known
abbrev pub fitted : ℕ → Form → List ℕ → Checked ℕ Line
fitted k form numbers = ◌>>◌ (require (fits (row_of form).fields numbers) 61 k) (passed (line_with form numbers))

-- three requirements: they hold, or the check is refused
three_required : {P A : Type 0} (p q r : Bool) (number : ℕ) (place : P) (rest : Checked P A)
    → ((p ≡ true) × (q ≡ true) × (r ≡ true))
    ⊎ (◌>>◌ (require p number place) (◌>>◌ (require q number place) (◌>>◌ (require r number place) rest))
    ≡ refused number place)
unfolding require ◌>>◌
three_required false q r number place rest = inr refl
three_required true false r number place rest = inr refl
three_required true true false number place rest = inr refl
three_required true true true number place rest = inl (refl, refl, refl)

module _ (k stage : ℕ) (bytes word : Text) (words : List Text) (are : parts 32 bytes ≡ word ∷ words) where
  line_nameless : form_named word ≡ none → line_read k stage bytes ≡ refused 60 k
  unfolding line_read first_or given ◌>>=◌
  line_nameless named = rw (are, named)

  module _ (form : Form) (named : form_named word ≡ some form) where
    line_required : ((may_come stage (row_of form) ≡ true) × (eqb (length words) (length (row_of form).fields) ≡ true)
        × (all is_numeral words ≡ true))
        ⊎ (line_read k stage bytes ≡ refused 60 k)
    unfolding line_read first_or given ◌>>=◌
    line_required =
        rw (are, named)
        (three_required (may_come stage (row_of form)) (eqb (length words) (length (row_of form).fields))
        (all is_numeral words) 60 k (fitted k form (map value_of words)))

    -- what is left once the other requirements hold
    line_fitted : may_come stage (row_of form) ≡ true → length words ≡ length (row_of form).fields
        → all is_numeral words ≡ true → line_read k stage bytes ≡ fitted k form (map value_of words)
    unfolding line_read first_or given ◌>>=◌
    line_fitted placed complete numerals =
        rw (are, named)
        (require_holds (may_come stage (row_of form)) 60 k _ placed
        ∙ require_holds (eqb (length words) (length (row_of form).fields)) 60 k _ (eq-eqb _ _ complete)
        ∙ require_holds (all is_numeral words) 60 k _ numerals)

-- ---- formed lines

-- the words of formed bytes
formed_words : {stage : ℕ} {bytes : Text} (f : Formed stage bytes) → parts 32 bytes ≡ (row_of f.form).word ∷ f.words
formed_words f =
    let word : Lacks 32 (row_of f.form).word = printed_lacks 32 (omega arith) _ (word_printed f.form) in
    ap (parts 32) (sym f.spelled)
    ∙ spaced_parts (row_of f.form).word f.words (word, words_lack 32 (omega arith) f.words f.numerals)

-- formed bytes are a line whose numbers are left to check
pub formed_read : (k : ℕ) {stage : ℕ} {bytes : Text} (f : Formed stage bytes)
    → line_read k stage bytes ≡ fitted k f.form (map value_of f.words)
formed_read k {stage} {bytes} f =
    line_fitted k stage bytes (row_of f.form).word f.words (formed_words f) f.form
    (form_named_lem f.form f.is_known) f.placed f.complete f.numerals

-- bytes that are not formed are refused by 60
pub read_formed : (k stage : ℕ) (bytes : Text) → Formed stage bytes ⊎ (line_read k stage bytes ≡ refused 60 k)
read_formed k stage bytes =
    let some = parts_some 32 bytes in
    named some.0 some.1 some.2 (form_named some.0) refl
  where
    named : (word : Text) (words : List Text) → parts 32 bytes ≡ word ∷ words → (found : Option Form)
        → form_named word ≡ found → Formed stage bytes ⊎ (line_read k stage bytes ≡ refused 60 k)
    named word words are none e = inr (line_nameless k stage bytes word words are e)
    named word words are (some form) e =
        let is = named_known word form e in
        elim (line_required k stage bytes word words are form e) [
          | inl hold ↦
              inl
              (record {
                form = form;
                words = words;
                is_known = is.0;
                placed = hold.0;
                complete = eqb-true (length words) (length (row_of form).fields) hold.1;
                numerals = hold.2;
                spelled = ap (λ (w : Text). spaced w words) is.1 ∙ parts_spaced word words bytes are;
              })
          | inr fails ↦ inr fails
        ]

-- ---- lines

-- a line's numbers are below 2^32
line_wide : (l : Line) → IsLine l → Every (λ n. n < wide_field) l.numbers
line_wide l good = fits_wide (row_of l.form).fields l.numbers (field_limited l.form) good.1

-- a line of the grammar is formed
line_formed : (stage : ℕ) (l : Line) → IsLine l → may_come stage (row_of l.form) ≡ true
    → Formed stage (line_bytes l)
unfolding line_bytes
line_formed stage l good placed =
    record {
      form = l.form;
      words = map decimal l.numbers;
      is_known = good.0;
      placed = placed;
      complete = map_length decimal l.numbers ∙ fits_length (row_of l.form).fields l.numbers good.1;
      numerals = decimals_numerals l.numbers (line_wide l good);
      spelled = refl;
    }

-- it has no newline before its end
pub line_lacks : (l : Line) → IsLine l → Lacks 10 (line_bytes l)
unfolding line_bytes
line_lacks l good =
    let word : Lacks 10 (row_of l.form).word = printed_lacks 10 (omega arith) _ (word_printed l.form) in
    spaced_lacks 10 (λ same. omega arith) (row_of l.form).word (map decimal l.numbers)
    (word, words_lack 10 (omega arith) (map decimal l.numbers) (decimals_numerals l.numbers (line_wide l good)))

-- a line of the grammar that may come is read
pub line_read_lem : (k stage : ℕ) (l : Line) → IsLine l → may_come stage (row_of l.form) ≡ true
    → line_read k stage (line_bytes l) ≡ passed l
unfolding line_formed
line_read_lem k stage l good placed =
    formed_read k (line_formed stage l good placed)
    ∙ ap (fitted k l.form) (decimals_values l.numbers (line_wide l good))
    ∙ require_holds (fits (row_of l.form).fields l.numbers) 61 k (passed l) good.1

-- formed bytes that are read are the line's, and its numbers fit
formed_passed : (k : ℕ) {stage : ℕ} {bytes : Text} (f : Formed stage bytes) {l : Line}
    → line_read k stage bytes ≡ passed l
    → (fits (row_of f.form).fields (map value_of f.words) ≡ true) × (formed_line f ≡ l)
formed_passed k f e =
    let fit = fits (row_of f.form).fields (map value_of f.words) in
    let parts = then_passed (require fit 61 k) (passed (formed_line f)) (sym (formed_read k f) ∙ e) in
    (test_holds fit (require_passed fit 61 k parts.1), passed_same parts.2)

-- a line of the grammar that may come, and its bytes
pub record ReadAs (stage : ℕ) (bytes : Text) (l : Line) : Type 0 where
  pub good : IsLine l
  pub placed : may_come stage (row_of l.form) ≡ true
  pub spelled : line_bytes l ≡ bytes

formed_line_lem : {stage : ℕ} {bytes : Text} (f : Formed stage bytes)
    → fits (row_of f.form).fields (map value_of f.words) ≡ true → ReadAs stage bytes (formed_line f)
unfolding line_bytes
formed_line_lem f fit =
    let wide = fits_wide (row_of f.form).fields (map value_of f.words) (field_limited f.form) fit in
    record {
      good = (f.is_known, fit);
      placed = f.placed;
      spelled =
          ap (λ (words : List Text). spaced (row_of f.form).word words) (numerals_back f.words f.numerals wide)
          ∙ f.spelled;
    }

-- bytes that are read as a line are the line's, which is one of the grammar and may come
pub read_line : (k stage : ℕ) (bytes : Text) (l : Line) → line_read k stage bytes ≡ passed l → ReadAs stage bytes l
read_line k stage bytes l e =
    elim (read_formed k stage bytes) [
      | inl f ↦ (let is = formed_passed k f e in subst (ReadAs stage bytes) is.1 (formed_line_lem f is.0))
      | inr fails ↦ refused_passed (sym fails ∙ e)
    ]
