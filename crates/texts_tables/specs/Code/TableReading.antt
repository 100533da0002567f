-- Reading a text as the loop over its lines goes: with the table that the lines so far spell.
-- Assumes nothing.
use Rattle.std.specs.Prelude.{ℕ, suc, ◌&&◌, List, [], ◌∷◌, leb}
use Rattle.notation.specs.Checked.{Checked, passed, require, ◌>>=◌, ◌>>◌}
use Rattle.notation.specs.Texts.{Text}
use Rattle.taskfile.specs.declared.Table.{Table}
use Rattle.texts.specs.Code.AddedLines.{add_part}
use Rattle.texts.specs.Grammar.{row_of, at_tasks}
use Rattle.texts.specs.Reading.{is_empty, line_read}

-- the lines from line k on, which comes at a stage, after those that spell a table
unfoldable pub table_read : Table → ℕ → ℕ → List Text → Checked ℕ Table
table_read t k stage [] = passed t
table_read t k stage (last ∷ []) = do
  require (is_empty last && leb at_tasks stage) 60 k
  passed t
table_read t k stage (bytes ∷ next ∷ others) = do
  line ← line_read k stage bytes
  table_read (add_part t line.form line.numbers) (suc k) (row_of line.form).stage (next ∷ others)
