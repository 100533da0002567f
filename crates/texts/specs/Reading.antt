-- Reading a text, with numbers 60 and 61. Document 02, E5: "60 line not in the grammar or missing, 61 number too large
-- for its field, by the first line at fault, counted from 0, 60 before 61".
-- Assumes nothing.
use Rattle.std.specs.Prelude.{ℕ, suc, ◌+◌, ◌*◌, ◌-◌, Bool, true, false, not, ◌&&◌, ◌||◌, List, [], ◌∷◌, map, length, drop, leb, eqb}
use Rattle.notation.specs.Checked.{Checked, passed, require, given, ◌>>=◌, ◌>>◌}
use Rattle.std.specs.Prelude.{if◌then◌else◌}
use Rattle.notation.specs.Lists.{up_to, all, first_with, first_or, same}
use Rattle.notation.specs.Texts.{Text}
use Rattle.std.proofs.Math.Option.{Option}
use Rattle.texts.specs.declared.Form.{Form}
use Rattle.texts.specs.declared.Form.TheVariants.{WindowLine, StartLine, TaskLine, InstructionLine, LockLine}
use Rattle.texts.specs.Grammar.{Line, line_with, row_of, operation_rows, fits, may_come, at_tasks, at_window}

-- ---- words and lines

-- one byte more at the front of the first part
unfoldable pub begins : ℕ → List Text → List Text
begins b [] = (b ∷ []) ∷ []
begins b (part ∷ parts) = (b ∷ part) ∷ parts

-- the parts between the bytes of one value: one more than there are such bytes
unfoldable pub parts : ℕ → Text → List Text
parts separator [] = [] ∷ []
parts separator (b ∷ bytes) = if eqb b separator then [] ∷ parts separator bytes else begins b (parts separator bytes)

-- a line's words, and a text's lines with what stands after the last newline
abbrev pub words_of : Text → List Text
words_of bytes = parts 32 bytes

abbrev pub lines_of : Text → List Text
lines_of text = parts 10 text

-- ---- numerals

unfoldable pub is_digit : ℕ → Bool
is_digit b = leb 48 b && leb b 57

unfoldable pub is_empty : Text → Bool
is_empty [] = true
is_empty (b ∷ bytes) = false

-- digits, at least one, and "no leading zeros"
unfoldable pub is_numeral : Text → Bool
is_numeral [] = false
is_numeral (first ∷ digits) = all is_digit (first ∷ digits) && (not (eqb first 48) || is_empty digits)

-- the number that digits are, after a number
unfoldable pub value_after : ℕ → Text → ℕ
value_after n [] = n
value_after n (b ∷ digits) = value_after (10 * n + (b - 48)) digits

unfoldable pub value_of : Text → ℕ
value_of digits = value_after 0 digits

-- ---- lines

-- the forms, and the one whose lines begin with a word
unfoldable pub forms : List Form
forms = WindowLine ∷ StartLine ∷ TaskLine ∷ LockLine ∷ map (λ o. InstructionLine o) (up_to (length operation_rows))

unfoldable pub form_named : Text → Option Form
form_named word = first_with (λ form. same (row_of form).word word) forms

-- line k, which comes at a stage: its first word names a form that may come, and the others are as many numerals as it
-- has fields, else 60; then each number fits, else 61
unfoldable pub line_read : ℕ → ℕ → Text → Checked ℕ Line
line_read k stage bytes = do
  form ← given (form_named (first_or [] (words_of bytes))) 60 k
  require (may_come stage (row_of form)) 60 k
  require (eqb (length (drop 1 (words_of bytes))) (length (row_of form).fields)) 60 k
  require (all is_numeral (drop 1 (words_of bytes))) 60 k
  require (fits (row_of form).fields (map value_of (drop 1 (words_of bytes)))) 61 k
  passed (line_with form (map value_of (drop 1 (words_of bytes))))

-- the lines from line k on, which comes at a stage; after the last newline nothing stands
unfoldable pub lines_read : ℕ → ℕ → List Text → Checked ℕ (List Line)
lines_read k stage [] = passed []
lines_read k stage (last ∷ []) = do
  require (is_empty last && leb at_tasks stage) 60 k
  passed []
lines_read k stage (bytes ∷ next ∷ others) = do
  line ← line_read k stage bytes
  lines ← lines_read (suc k) (row_of line.form).stage (next ∷ others)
  passed (line ∷ lines)

-- a text's lines
unfoldable pub text_read : Text → Checked ℕ (List Line)
text_read text = lines_read 0 at_window (lines_of text)
