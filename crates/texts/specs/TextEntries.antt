-- What both conversions answer, and what the lent memory then holds, for every input. Document 02, E5: "Texts go up to
-- 8,192 bytes. Errors: 62 for a text above that, place 0, first of all; 60 .., 61 ..; then the table's own numbers,
-- placed at the line of the record concerned (the header's is line 0; 11 keeps place 0); 20 last, for a target below
-- 2,320 bytes or, for text, below 8,192; the target untouched."
-- Assumes nothing.
use Rattle.std.specs.Prelude.{ℕ, zero, suc, List, length, leb}
use Rattle.notation.specs.Checked.{Checked, passed, require, placed_by, ◌>>=◌, ◌>>◌}
use Rattle.notation.specs.Texts.{Text}
use Rattle.taskfile.specs.Records.{File}
use Rattle.timing.specs.Accepted.{accept}
use Rattle.writer.specs.declared.WriteAnswer.{WriteAnswer}
use Rattle.writer.specs.WriteEntries.{written, answer_of, after_of}
use Rattle.texts.specs.Reading.{text_read}
use Rattle.texts.specs.TextTables.{table_of, text_of}

abbrev pub text_room : ℕ
text_room = 8_192

-- The line of the record with an index in walk order: two lines stand for the header, `window` and `start`.
unfoldable pub line_of_record : ℕ → ℕ
line_of_record zero = 0
line_of_record (suc r) = suc (suc r)

-- a text's file: the writer's, with its places led to lines
unfoldable pub filed : Text → List ℕ → Checked ℕ File
filed text buffer = do
  require (leb (length text) text_room) 62 0
  lines ← text_read text
  placed_by line_of_record (written (table_of lines) buffer)

-- a file's text
unfoldable pub texted : File → List ℕ → Checked ℕ Text
texted f buffer = do
  a ← accept f
  require (leb text_room (length buffer)) 20 0
  passed (text_of a.table)

unfoldable pub to_file_answer : Text → List ℕ → WriteAnswer
to_file_answer text buffer = answer_of (filed text buffer)

unfoldable pub to_file_after : Text → List ℕ → List ℕ
to_file_after text buffer = after_of (filed text buffer) buffer

unfoldable pub to_text_answer : File → List ℕ → WriteAnswer
to_text_answer f buffer = answer_of (texted f buffer)

unfoldable pub to_text_after : File → List ℕ → List ℕ
to_text_after f buffer = after_of (texted f buffer) buffer
