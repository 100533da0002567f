-- What the writer's entry leaves in the lent words and the lent file.
-- Assumes nothing.
use Rattle.std.specs.Prelude.{ℕ, Bool, ◌&&◌, List, length, leb}
use Rattle.std.specs.Prelude.{if◌then◌else◌}
use Rattle.taskfile.specs.Records.{File}
use Rattle.adqurim_words.specs.Words.{words_of_write, write_words, filled_with}
use Rattle.writer.specs.Memory.{table_bytes, table_in}
use Rattle.writer.specs.WriteEntries.{write_answer, write_after}

-- is there room for the words, and does the lent memory hold a whole table?
unfoldable pub lends_enough : List ℕ → List ℕ → Bool
lends_enough table words = leb words_of_write (length words) && leb table_bytes (length table)

-- what the lent words hold after the entry; if too little was lent they stay as they were
unfoldable pub write_words_after : List ℕ → File → List ℕ → List ℕ
write_words_after table file words =
    if lends_enough table words then filled_with (write_words (write_answer (table_in table) file)) words else words

-- and what the lent file holds
unfoldable pub write_file_after : List ℕ → File → List ℕ → File
write_file_after table file words = if lends_enough table words then write_after (table_in table) file else file
