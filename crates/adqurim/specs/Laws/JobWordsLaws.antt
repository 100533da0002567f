-- Laws of the words of the job list's entry, with room and without.
-- Assumes nothing.
use Rattle.std.specs.Prelude.{◌≡◌, ℕ, ◌≤◌, ◌<◌, set}
use Rattle.std.proofs.Math.Path.{sym, ap}
use Rattle.std.proofs.Math.Bool.{true, false}
use mathlib.Core.List.{List}
use Rattle.std.proofs.Math.ListN.{length}
use Rattle.std.proofs.Math.Dec.{leb}
use borrow.Author.Tests.{le-leb, lt-leb}
use Rattle.taskfile.specs.Records.{File}
use Rattle.timing.specs.declared.ListAnswer.{ListAnswer}
use Rattle.timing.specs.declared.JobRecord.{JobRecord}
use Rattle.timing.specs.ReadEntries.{list_answer, list_after}
use Rattle.adqurim.specs.JobWords.{words_after, entry_after}
use Rattle.adqurim_words.specs.Words.{list_words, filled_with}
use Rattle.adqurim_words.specs.Laws.WordsLaws.{three_stored}

-- without room the words stay as they were
unwritten : (a : ListAnswer) (words : List ℕ) → leb 3 (length words) ≡ false → words ≡ filled_with (list_words a) words
unfolding filled_with list_words
unwritten a words e = rw e

pub stays : (a : ListAnswer) (words : List ℕ) → length words < 3
    → (false ≡ leb 3 (length words)) × (words ≡ filled_with (list_words a) words)
stays a words low = let e = lt-leb _ _ low in (sym e, unwritten a words e)

-- with room the first three are stored
pub stores : (a : ListAnswer) (words : List ℕ) → 3 ≤ length words
    → (true ≡ leb 3 (length words))
    × (set (set (set words 0 a.number) 1 a.place) 2 a.jobs ≡ filled_with (list_words a) words)
unfolding list_words
stores a words high = (sym (le-leb _ _ high), three_stored words _ _ _ high)

-- ---- what the entry leaves in both

-- without room for the words nothing changes
pub entry_short : (f : File) (list : List JobRecord) (words : List ℕ) → length words < 3
    → (false ≡ leb 3 (length words)) × (list ≡ entry_after f list words) × (words ≡ words_after f list words)
unfolding words_after entry_after
entry_short f list words low =
    let e = lt-leb _ _ low in (sym e, rw e, unwritten (list_answer f list) words e)

-- with room the list is as the job list leaves it
pub entry_long : (f : File) (list : List JobRecord) (words : List ℕ) → 3 ≤ length words
    → list_after f list ≡ entry_after f list words
unfolding entry_after
entry_long f list words high = rw (le-leb _ _ high)

-- and the words are those of its answer
pub words_put : (f : File) (list : List JobRecord) (words : List ℕ) {a : ListAnswer} → a ≡ list_answer f list
    → filled_with (list_words a) words ≡ words_after f list words
unfolding words_after
words_put f list words e = ap (λ (a : ListAnswer). filled_with (list_words a) words) e
