-- The forms of lines by their words: a known form is found by its word, and what is found by a word is a known form
-- with that word. What holds of each operation's row holds of every instruction's: words are of bytes above the space,
-- and no field holds more than 32 bits.
-- Assumes nothing.
use Rattle.std.specs.Prelude.{◌≡◌, refl, ℕ, Bool, true, length, drop, leb, ltb}
use Rattle.std.proofs.Common.{sym, ap, ◌∙◌, ltb-true}
use mathlib.Core.List.Memᴰ
use mathlib.Core.List.{Memᴰ}
use Rattle.std.proofs.Math.Option.{some}
use Rattle.std.specs.Prelude.{if◌then◌else◌}
use Rattle.notation.specs.Lists.{from, up_to, all, first_with, same}
use Rattle.notation.specs.Ordered.{Every}
use Rattle.notation.specs.Laws.ElementLaws.{same_equal}
use Rattle.notation.specs.Laws.ListLaws.{up_to_member}
use Rattle.notation.specs.Laws.PairLaws.{every_member}
use Rattle.notation.specs.Laws.QuantifierLaws.{all_at, first_at, all_get_or}
use Rattle.notation.specs.Laws.TestLaws.{and_both}
use Rattle.notation.specs.Texts.{Text}
use Rattle.sheets.specs.SheetWords.{task_word}
use Rattle.texts.specs.declared.Form.{Form}
use Rattle.texts.specs.declared.Form.TheVariants.{WindowLine, StartLine, TaskLine, InstructionLine, LockLine}
use Rattle.texts.specs.Grammar.{Row, row_of, operation_rows, known, wide_field}
use Rattle.texts.specs.Reading.{forms, form_named}
use Rattle.texts.specs.Words

-- all words, and the rows that they stand in
unfoldable rows_opened : Unit {0}
unfolding Words.window_word Words.start_word Words.lock_word Words.end_word Words.load_word Words.store_word Words.set_word
    Words.add_word Words.subtract_word Words.less_word Words.equal_word Words.pick_word Words.acquire_word Words.release_word
    Words.assert_word task_word operation_rows row_of
rows_opened = tt

-- ---- which forms there are

-- a known form is a listed one
form_listed : (form : Form) → known form ≡ true → Memᴰ form forms
unfolding forms known
form_listed WindowLine is = Memᴰ.head refl
form_listed StartLine is = Memᴰ.tail (Memᴰ.head refl)
form_listed TaskLine is = Memᴰ.tail (Memᴰ.tail (Memᴰ.head refl))
form_listed LockLine is = Memᴰ.tail (Memᴰ.tail (Memᴰ.tail (Memᴰ.head refl)))
form_listed (InstructionLine operation) is =
    let listed = (up_to_member (length operation_rows) operation).1 (ltb-true operation (length operation_rows) is) in
    Memᴰ.tail (Memᴰ.tail (Memᴰ.tail (Memᴰ.tail (Memᴰ.map (λ o. InstructionLine o) listed))))

-- no two forms have one word: each is found by its own
forms_named : Every (λ form. form_named (row_of form).word ≡ some form) forms
unfolding forms form_named first_with same up_to from rows_opened
forms_named =
    let operations : Every (λ form. form_named (row_of form).word ≡ some form) (drop 4 forms) =
    (refl, (refl, (refl, (refl, (refl, (refl, (refl, (refl, (refl, (refl, (refl, (refl, tt)))))))))))) in
    (refl, (refl, (refl, (refl, operations))))

pub form_named_lem : (form : Form) → known form ≡ true → form_named (row_of form).word ≡ some form
form_named_lem form is =
    every_member (λ form. form_named (row_of form).word ≡ some form) forms forms_named (form_listed form is)

forms_known : all known forms ≡ true
unfolding all forms known up_to from rows_opened
forms_known = refl

-- a form that was found by a word is known and has that word
pub named_known : (word : Text) (form : Form) → form_named word ≡ some form
    → (known form ≡ true) × ((row_of form).word ≡ word)
unfolding form_named
named_known word form e =
    let found = first_at (λ form. same (row_of form).word word) forms WindowLine e in (
      ap known (sym found.2) ∙ all_at known forms found.0 WindowLine forms_known found.1,
      same_equal (row_of form).word word found.3,
    )

-- ---- what stands in the rows

-- what is computed of each operation's row, and so of End's past them, holds of every instruction's
pub operation_tested : (test : Row → Bool) → all test operation_rows ≡ true → (operation : ℕ)
    → test (row_of (InstructionLine operation)) ≡ true
unfolding row_of operation_rows all
operation_tested test every operation =
    let end = row_of (InstructionLine 0) in
    all_get_or test operation_rows operation end every (and_both (test end) _ every).0

-- words are of bytes above the space
pub word_printed : (form : Form) → all (λ b. ltb 32 b) (row_of form).word ≡ true
unfolding all rows_opened
word_printed WindowLine = refl
word_printed StartLine = refl
word_printed TaskLine = refl
word_printed LockLine = refl
word_printed (InstructionLine operation) = operation_tested (λ r. all (λ b. ltb 32 b) r.word) refl operation

-- limits are at most that of 32 bits
pub field_limited : (form : Form) → all (λ limit. leb limit wide_field) (row_of form).fields ≡ true
unfolding all rows_opened
field_limited WindowLine = refl
field_limited StartLine = refl
field_limited TaskLine = refl
field_limited LockLine = refl
field_limited (InstructionLine operation) =
    operation_tested (λ r. all (λ limit. leb limit wide_field) r.fields) refl operation
