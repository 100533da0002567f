-- What the writer's entry and the table's entry answer, and what the lent memory then holds, for every input.
-- Document 02, E2: "in a buffer of at least 2,320 bytes"; "an accepted call also returns the length of what it wrote,
-- and bytes past that don't change"; "then 20 for a short buffer, the buffer untouched".
-- Assumes nothing.
use Rattle.std.specs.Prelude.{ℕ, List, ◌++◌, length, drop, leb}
use Rattle.notation.specs.Checked.{Checked, refused, passed, require, ◌>>=◌, ◌>>◌}
use Rattle.taskfile.specs.declared.Table.{Table}
use Rattle.taskfile.specs.Records.{File}
use Rattle.timing.specs.Accepted.{accept}
use Rattle.writer.specs.declared.WriteAnswer.{WriteAnswer}
use Rattle.writer.specs.Fields.{accept_table}
use Rattle.writer.specs.Layout.{layout}
use Rattle.writer.specs.Memory.{memory_of, table_bytes}

-- 1 + 8 + 8 × 16 + 8 records
abbrev pub file_room : ℕ
file_room = 2_320

-- the writer: a table's file
unfoldable pub written : Table → List ℕ → Checked ℕ File
written t buffer = do
  accept_table t
  require (leb file_room (length buffer)) 20 0
  passed (layout t)

-- the table's entry: the memory of a file's table
unfoldable pub tabled : File → List ℕ → Checked ℕ (List ℕ)
tabled f memory = do
  a ← accept f
  require (leb table_bytes (length memory)) 20 0
  passed (memory_of a.table)

-- "A refusal returns its number and place, every other field zero."
unfoldable pub answer_of : Checked ℕ (List ℕ) → WriteAnswer
answer_of (refused number place) = record { number = number; place = place; length = 0 }
answer_of (passed bytes) = record { number = 0; place = 0; length = length bytes }

-- the bytes at the buffer's front; a refusal leaves it as it was
unfoldable pub after_of : Checked ℕ (List ℕ) → List ℕ → List ℕ
after_of (refused number place) buffer = buffer
after_of (passed bytes) buffer = bytes ++ drop (length bytes) buffer

unfoldable pub write_answer : Table → List ℕ → WriteAnswer
write_answer t buffer = answer_of (written t buffer)

unfoldable pub write_after : Table → List ℕ → List ℕ
write_after t buffer = after_of (written t buffer) buffer

unfoldable pub table_answer : File → List ℕ → WriteAnswer
table_answer f memory = answer_of (tabled f memory)

unfoldable pub table_after : File → List ℕ → List ℕ
table_after f memory = after_of (tabled f memory) memory
