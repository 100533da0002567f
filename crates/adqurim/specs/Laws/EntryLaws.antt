-- What the entries do without room: it is known, before any file is read, how many words an answer takes, so nothing
-- changes.
-- Assumes nothing.
use Rattle.std.specs.Prelude.{◌≡◌, ℕ, ◌≤◌, ◌<◌, true, false, List, [], leb, length}
use Rattle.std.proofs.Math.Path.{refl, ap}
use Rattle.std.proofs.Common.{sym, ◌∙◌, arith}
use borrow.Author.Tests.{le-leb, lt-leb}
use Rattle.notation.specs.Checked.{Checked, refused, passed}
use Rattle.std.specs.Prelude.{if◌then◌else◌}
use Rattle.notation.specs.Laws.PaddedLaws.{padded_length}
use Rattle.taskfile.specs.declared.Table.{Table}
use Rattle.taskfile.specs.Records.{File}
use Rattle.timing.specs.Accepted.{Accepted, accept}
use Rattle.timing.specs.ReadEntries.{read_answer_of, read_answer}
use Rattle.machine.specs.declared.RunAnswer.{RunAnswer}
use Rattle.sheets.specs.declared.SheetAnswer.{SheetAnswer}
use Rattle.walk.specs.WalkEntry.{walk_answer}
use Rattle.walk.proofs.Laws.SizeLaws.{Sized, walk_sized}
use Rattle.adqurim_words.specs.Words.{words_of_sheet, sheet_words, words_of_read, words_of_run, words_of_walk, read_words, run_words, walk_words, filled_with}
use Rattle.adqurim_words.specs.Words.{words_of_write, write_words}
use Rattle.adqurim_words.specs.Laws.WordsLaws.{no_room, read_length, words_run_length, walk_length}
use Rattle.writer.specs.declared.WriteAnswer.{WriteAnswer}
use Rattle.writer.specs.Memory.{table_bytes, table_in}
use Rattle.writer.specs.WriteEntries.{write_answer, write_after}
use Rattle.adqurim.specs.WriteWords.{lends_enough, write_words_after, write_file_after}

-- the reader answers eight response times
eight : (c : Checked ℕ Accepted) → length (read_answer_of c).responses ≡ 8
unfolding read_answer_of
eight (refused number place) = padded_length 8 0 []
eight (passed a) = padded_length 8 0 a.responses

pub read_unfilled : (lent : List ℕ) (f : File) → length lent < words_of_read
    → lent ≡ filled_with (read_words (read_answer f)) lent
unfolding read_answer
read_unfilled lent f short =
    no_room (read_words (read_answer f)) lent (omega (arith, read_length (read_answer f) (eight (accept f))))

pub run_unfilled : (lent : List ℕ) (x : RunAnswer) → Sized x.store x.failed → length lent < words_of_run
    → lent ≡ filled_with (run_words x) lent
run_unfilled lent x sized short =
    no_room (run_words x) lent (omega (arith, words_run_length x sized.eight sized.each))

pub sheet_unfilled : (lent : List ℕ) (x : SheetAnswer) → length lent < words_of_sheet
    → lent ≡ filled_with (sheet_words x) lent
unfolding sheet_words
sheet_unfilled lent x short = no_room (sheet_words x) lent short

pub write_unfilled : (lent : List ℕ) (x : WriteAnswer) → length lent < words_of_write
    → lent ≡ filled_with (write_words x) lent
unfolding write_words
write_unfilled lent x short = no_room (write_words x) lent short

pub walk_unfilled : (lent : List ℕ) (f : File) (allowance : ℕ) (buffer : List ℕ) → length lent < words_of_walk
    → lent ≡ filled_with (walk_words (walk_answer f allowance buffer)) lent
walk_unfilled lent f allowance buffer short =
    let sized = walk_sized f allowance buffer in
    no_room (walk_words (walk_answer f allowance buffer)) lent
    (omega (arith, walk_length (walk_answer f allowance buffer) sized.eight sized.each))

-- a lent buffer, without room for so many words and with it
pub buffer_kept : (words n : ℕ) (after before : List ℕ) → n < words → before ≡ (if leb words n then after else before)
buffer_kept words n after before short = rw (lt-leb words n short)

pub buffer_changed : (words n : ℕ) (after before : List ℕ) → words ≤ n → after ≡ (if leb words n then after else before)
buffer_changed words n after before room = rw (le-leb words n room)

-- ---- the writer's entry

module _ (table words file : List ℕ) where
  -- what it leaves where too little was lent
  abbrev pub NothingWritten : Type 0
  NothingWritten =
      (false ≡ lends_enough table words)
      × (words ≡ write_words_after table file words)
      × (file ≡ write_file_after table file words)

  lends_little : lends_enough table words ≡ false → NothingWritten
  unfolding write_words_after write_file_after
  lends_little e = (sym e, rw e refl, rw e refl)

  pub few_words : length words < words_of_write → NothingWritten
  unfolding lends_enough
  few_words short = lends_little (rw (lt-leb words_of_write (length words) short) refl)

  pub short_table : words_of_write ≤ length words → length table < table_bytes → NothingWritten
  unfolding lends_enough
  short_table room short =
      lends_little (rw (le-leb words_of_write (length words) room, lt-leb table_bytes (length table) short) refl)

  -- and where enough was lent
  pub enough_lent : words_of_write ≤ length words → table_bytes ≤ length table → {t : Table} {x : WriteAnswer}
      {after lent : List ℕ} → t ≡ table_in table → (x ≡ write_answer t file) × (after ≡ write_after t file)
      → lent ≡ filled_with (write_words x) words
      → (true ≡ lends_enough table words)
      × (lent ≡ write_words_after table file words)
      × (after ≡ write_file_after table file words)
  unfolding lends_enough write_words_after write_file_after
  enough_lent room whole is writes put =
      let enough = le-leb words_of_write (length words) room in
      let all = le-leb table_bytes (length table) whole in (
        rw (enough, all) refl,
        rw (enough, all) (put ∙ ap (λ (x : WriteAnswer). filled_with (write_words x) words) (writes.0 ∙ ap (λ (t : Table). write_answer t file) is)),
        rw (enough, all) (writes.1 ∙ ap (λ (t : Table). write_after t file) is),
      )
