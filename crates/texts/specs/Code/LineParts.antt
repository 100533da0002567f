-- What the functions that read a text come to, in the shape of their answers: a word's end, a numeral and the numerals
-- of a line, a form by its word, a line.
-- Assumes nothing.
use Rattle.std.specs.Prelude.{ℕ, min, ◌+◌, List, [], map, length, drop, Bool, Some, None, Result, Ok, Err}
use Rattle.std.specs.Prelude as answers
use Rattle.std.proofs.Math.Option.{Option, none, some}
use Rattle.std.specs.Prelude.{if◌then◌else◌}
use Rattle.notation.specs.Lists.{all, first_or, padded}
use Rattle.notation.specs.Texts.{Text}
use Rattle.texts.specs.declared.Form.{Form}
use Rattle.texts.specs.declared.Numerals.{Numerals}
use Rattle.texts.specs.declared.ReadLine.{ReadLine}
use Rattle.texts.specs.Grammar.{Line, wide_field}
use Rattle.texts.specs.Reading.{parts, is_numeral, value_of}

-- where the part that begins at a byte of a text ends: at the next separator, or where the text ends
unfoldable pub part_end : ℕ → Text → ℕ → ℕ
part_end separator text from = from + length (first_or [] (parts separator (drop from text)))

-- the words of a line after the one that ends at a byte
unfoldable pub words_past : Text → ℕ → List Text
words_past line at = drop 1 (parts 32 (drop at line))

-- a numeral's value, or the lowest that fits no field if that is less: "it saturates, it never wraps"
unfoldable pub capped_value : Text → ℕ
capped_value word = if is_numeral word then min wide_field (value_of word) else 0

-- that value, if a word is a numeral
unfoldable pub numeral_of : Text → answers.Option ℕ
numeral_of word = if is_numeral word then Some (capped_value word) else None

-- the numerals of words that are numerals, or else what was read of them: 0 stands for a word that is none
abbrev pub numerals_told : Bool → Numerals → Result Numerals Numerals
numerals_told good read = if good then Ok read else Err read

unfoldable pub numerals_of : List Text → Result Numerals Numerals
numerals_of words =
    numerals_told (all is_numeral words)
    (record { count = length words; values = padded 8 0 (map capped_value words) })

-- a form that was looked for by its word
unfoldable pub named_of : Option Form → answers.Option Form
named_of none = None
named_of (some form) = Some form

-- a line with its numbers as an array
unfoldable pub held : Line → ReadLine
held l = record { form = l.form; numbers = padded 8 0 l.numbers }
