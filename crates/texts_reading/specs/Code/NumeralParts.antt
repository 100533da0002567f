-- What the functions that read the words of a line ask and come to: a byte where a part ends, and one numeral more.
-- Assumes nothing.
use Rattle.std.specs.Prelude.{◌≡◌, ℕ, ◌+◌, ◌≤◌, ◌<◌, length, get_or, set}
use Rattle.notation.specs.Texts.{Text}
use Rattle.texts.specs.declared.Numerals.{Numerals}
use Rattle.texts.specs.Code.LineParts.{capped_value}

-- a part of a text ends at a byte: a separator stands there, or the text ends
pub record PartEnds (separator : ℕ) (text : Text) (at : ℕ) : Type 0 where
  pub within : at ≤ length text
  pub stands : at < length text → get_or text at 0 ≡ separator

-- one word more after those that were read; past the eighth its value is not kept
unfoldable pub with_numeral : Numerals → Text → Numerals
with_numeral read word =
    record { count = read.count + 1; values = set read.values read.count (capped_value word) }
