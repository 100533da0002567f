-- What is left to read of a line once its form is known, in the parts of the code.
-- Assumes nothing.
use Rattle.std.specs.Prelude.{ℕ, Bool, ◌&&◌, List, map, length, eqb}
use Rattle.notation.specs.Checked.{Checked, passed, require, ◌>>◌}
use Rattle.notation.specs.Lists.{all}
use Rattle.notation.specs.Texts.{Text}
use Rattle.texts.specs.declared.Form.{Form}
use Rattle.texts.specs.Grammar.{Line, line_with, row_of, fits, may_come}
use Rattle.texts.specs.Reading.{is_numeral, value_of}

-- a line of a form may come, and as many words as it has fields stand after its word
unfoldable pub well_shaped : ℕ → Form → ℕ → Bool
well_shaped stage form count = may_come stage (row_of form) && eqb count (length (row_of form).fields)

-- line k, of a form and with words after the first
unfoldable pub form_read : ℕ → ℕ → Form → List Text → Checked ℕ Line
form_read k stage form words = do
  require (may_come stage (row_of form)) 60 k
  require (eqb (length words) (length (row_of form).fields)) 60 k
  require (all is_numeral words) 60 k
  require (fits (row_of form).fields (map value_of words)) 61 k
  passed (line_with form (map value_of words))
