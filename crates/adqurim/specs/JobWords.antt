-- What the job list's entry leaves in the lent words and the lent list.
-- Assumes nothing.
use Rattle.std.specs.Prelude.{ℕ, List, length, leb}
use Rattle.std.specs.Prelude.{if◌then◌else◌}
use Rattle.taskfile.specs.Records.{File}
use Rattle.timing.specs.declared.JobRecord.{JobRecord}
use Rattle.timing.specs.ReadEntries.{list_answer, list_after}
use Rattle.adqurim_words.specs.Words.{words_of_list, list_words, filled_with}

-- what the lent words hold after the entry
unfoldable pub words_after : File → List JobRecord → List ℕ → List ℕ
words_after f list words = filled_with (list_words (list_answer f list)) words

-- and what the lent list holds: without room for the words it stays as it was
unfoldable pub entry_after : File → List JobRecord → List ℕ → List JobRecord
entry_after f list words = if leb words_of_list (length words) then list_after f list else list
