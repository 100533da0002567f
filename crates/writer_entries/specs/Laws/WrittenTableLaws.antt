-- The entries over a table in memory: what they answer and what the lent memory then holds, by what the reader finds.
-- Assumes nothing.
use Rattle.std.specs.Prelude.{◌≡◌, ℕ, ◌≤◌, ◌<◌, List, ◌++◌, leb, length, take, drop, replicate}
use Rattle.std.proofs.Common.{sym, ◌∙◌, arith, le-leb}
use Rattle.std.proofs.Math.Path.{ap}
use Rattle.std.proofs.lemmas.List.{length-replicate}
use Rattle.std.proofs.Math.Seq.{take-append_seam}
use Rattle.std.proofs.lemmas.Bool.{lt-leb}
use Rattle.notation.specs.Checked.{Checked, refused, passed, require, mapped, ◌>>=◌, ◌>>◌}
use Rattle.notation.specs.Laws.CheckedLaws.{refused_passed, require_holds, require_fails, bind_refused, bind_goes, then_refused, then_goes}
use Rattle.taskfile.specs.declared.Table.{Table}
use Rattle.taskfile.specs.Records.{File}
use Rattle.timing.specs.declared.AcceptedFile.{AcceptedFile}
use Rattle.timing.specs.Accepted.{Accepted, accept}
use Rattle.timing.specs.Code.AcceptParts.{AcceptedParts, accepted_file}
use Rattle.timing.proofs.Laws.AcceptLaws.{accepted_refused, accepted_passed}
use Rattle.notation_buffers.specs.Code.Writing.{Appends}
use Rattle.notation_buffers.specs.Laws.WritingLaws.{appends_count, appends_front, appends_length}
use Rattle.writer.specs.declared.WriteAnswer.{WriteAnswer}
use Rattle.writer.specs.Values.{Fits}
use Rattle.writer.specs.Fields.{accept_table}
use Rattle.writer.proofs.Laws.AcceptLaidLaws.{accept_laid}
use Rattle.writer.proofs.Laws.EntryDemandLaws.{fields_sound}
use Rattle.writer.proofs.Laws.LayoutSizes.{layout_fits, layout_length}
use Rattle.writer.specs.Layout.{layout, layout_room}
use Rattle.writer.specs.WriteEntries.{written, answer_of, after_of, write_after, file_room}

-- a count or a refusal, and lent memory, as a check's outcome has them
abbrev pub Comes : Checked ℕ (List ℕ) → List ℕ → Checked ℕ ℕ → List ℕ → Type 0
Comes c buffer says after = (says ≡ mapped length c) × (after ≡ after_of c buffer)

comes_as : {c d : Checked ℕ (List ℕ)} (buffer : List ℕ) → c ≡ d → Comes c buffer (mapped length d) (after_of d buffer)
comes_as buffer e =
    (sym (ap (λ (k : Checked ℕ (List ℕ)). mapped length k) e), sym (ap (λ (k : Checked ℕ (List ℕ)). after_of k buffer) e))

-- the answer of a refusal, and of so many bytes written
abbrev pub refusal : ℕ → ℕ → WriteAnswer
refusal number place = record { number = number; place = place; length = 0 }

abbrev pub done : ℕ → WriteAnswer
done n = record { number = 0; place = 0; length = n }

-- what is answered of a check whose count or refusal is known
pub refusal_answers : (c : Checked ℕ (List ℕ)) {n p : ℕ} → mapped length c ≡ refused n p → refusal n p ≡ answer_of c
unfolding mapped answer_of
refusal_answers (refused number place) e = cc
refusal_answers (passed bytes) e = refused_passed (sym e)

pub done_answers : (c : Checked ℕ (List ℕ)) {n : ℕ} → mapped length c ≡ passed n → done n ≡ answer_of c
unfolding mapped answer_of
done_answers (refused number place) e = refused_passed e
done_answers (passed bytes) e = cc

-- ---- a table that was laid out

-- the array that a table is laid out in has room for every layout
pub laying_room : layout_room ≤ length (replicate {A = ℕ} layout_room 0)
laying_room = omega (arith, length-replicate {A = ℕ} layout_room 0)

module _ (t : Table) (fit : Fits t) {before after : List ℕ} {n : ℕ} (does : Appends layout_room before 0 (layout t) after n) where
  pub laid_count : n ≡ length (layout t)
  laid_count = appends_count does (layout_length t fit)

  pub laid_within : n ≤ layout_room
  laid_within = omega (arith, laid_count, layout_length t fit)

  pub laid_inside : layout_room ≤ length before → n ≤ length after
  laid_inside enough = omega (arith, laid_within, appends_length does enough)

  pub laid_file : take n after ≡ layout t
  laid_file =
      (λ j. take (laid_count j) (appends_front does (layout_length t fit) j))
      ∙ take-append_seam (layout t) (drop (length (layout t)) before)

  -- the reader finds in it what the table comes to
  pub laid_accepted : accept (take n after) ≡ accept_table t
  laid_accepted = ap accept laid_file ∙ accept_laid t fit

  -- a file has room for the layout of an accepted table
  pub laid_fits : {a : Accepted} → accept_table t ≡ passed a → n ≤ file_room
  laid_fits e = omega (arith, laid_count, layout_fits t fit (fields_sound t e))

  -- copied into a buffer with room for it, the layout of an accepted table stands at the front whole
  module _ {a : Accepted} (e : accept_table t ≡ passed a) {buffer out : List ℕ} {m : ℕ}
      (copies : Appends file_room buffer 0 (take n after) out m) where
    fits_file : length (take n after) ≤ file_room
    fits_file = omega (arith, ap length laid_file, layout_fits t fit (fields_sound t e))

    pub copied_count : m ≡ length (layout t)
    copied_count = appends_count copies fits_file ∙ ap length laid_file

    pub copied_whole : out ≡ layout t ++ drop (length (layout t)) buffer
    copied_whole = appends_front copies fits_file ∙ ap (λ (l : List ℕ). l ++ drop (length l) buffer) laid_file

    pub copied_within : m ≤ layout_room
    copied_within = omega (arith, copied_count, layout_length t fit)

-- ---- the writer

-- a table is accepted where its layout is
pub write_accepts : (t : Table) (file : List ℕ) → accept file ≡ accept_table t → {x : AcceptedFile}
    → passed x ≡ mapped accepted_file (accept file) → (a : Accepted) × (accept_table t ≡ passed a)
write_accepts t file laid says =
    let found = accepted_passed (accept file) says in
    (found.0, sym laid ∙ found.1)

module _ (t : Table) (buffer file : List ℕ) (laid : accept file ≡ accept_table t) where
  abbrev pub WriterIs : Checked ℕ ℕ → List ℕ → Type 0
  WriterIs says after = (says ≡ mapped length (written t buffer)) × (after ≡ write_after t buffer)

  -- a table that is refused
  pub write_refused : {n p : ℕ} → refused n p ≡ mapped accepted_file (accept file) → WriterIs (refused n p) buffer
  unfolding written write_after after_of mapped
  write_refused e = comes_as buffer (then_refused _ (sym laid ∙ accepted_refused (accept file) e))

  module _ {x : AcceptedFile} (says : passed x ≡ mapped accepted_file (accept file)) where
    -- a buffer that is too short
    pub write_no_room : length buffer < file_room → WriterIs (refused 20 0) buffer
    unfolding written write_after after_of mapped
    write_no_room lt =
        comes_as buffer
        (then_goes _ (write_accepts t file laid says).1
        ∙ require_fails (leb file_room (length buffer)) 20 0 (passed (layout t)) (lt-leb file_room (length buffer) lt))

    -- a table that was written
    pub write_done : file_room ≤ length buffer → {n : ℕ} → n ≡ length (layout t)
        → WriterIs (passed n) (layout t ++ drop (length (layout t)) buffer)
    unfolding written write_after after_of mapped
    write_done room count =
        let is =
        comes_as buffer
        (then_goes _ (write_accepts t file laid says).1
        ∙ require_holds (leb file_room (length buffer)) 20 0 (passed (layout t)) (le-leb file_room (length buffer) room))
        in
        (ap passed count ∙ is.0, is.1)

-- ---- what is made of an accepted file's table

-- the bytes that are made of the table, in a buffer with room for them
abbrev pub made_of : ℕ → (Table → List ℕ) → File → List ℕ → Checked ℕ (List ℕ)
made_of room bytes_of f buffer = do
  a ← accept f
  require (leb room (length buffer)) 20 0
  passed (bytes_of a.table)

module _ (room : ℕ) (bytes_of : Table → List ℕ) (file : File) (buffer : List ℕ) where
  -- a file that is refused
  pub made_refused : {n p : ℕ} → refused n p ≡ mapped accepted_file (accept file)
      → Comes (made_of room bytes_of file buffer) buffer (refused n p) buffer
  unfolding after_of mapped
  made_refused e = comes_as buffer (bind_refused _ (accepted_refused (accept file) e))

  module _ {x : AcceptedFile} (says : passed x ≡ mapped accepted_file (accept file)) where
    abbrev found : (a : Accepted) × (accept file ≡ passed a) × AcceptedParts x a
    found = accepted_passed (accept file) says

    -- a buffer that is too short
    pub made_no_room : length buffer < room → Comes (made_of room bytes_of file buffer) buffer (refused 20 0) buffer
    unfolding after_of mapped
    made_no_room lt =
        comes_as buffer
        (bind_goes _ found.1
        ∙ require_fails (leb room (length buffer)) 20 0 (passed (bytes_of found.0.table)) (lt-leb room (length buffer) lt))

    -- bytes that were written, all of them
    pub made_done : room ≤ length buffer → {limit n : ℕ} {after : List ℕ}
        → Appends limit buffer 0 (bytes_of x.table) after n → length (bytes_of x.table) ≤ limit
        → Comes (made_of room bytes_of file buffer) buffer (passed n) after
    unfolding after_of mapped
    made_done enough does whole =
        let is =
        comes_as buffer
        (bind_goes _ found.1
        ∙ require_holds (leb room (length buffer)) 20 0 (passed (bytes_of found.0.table)) (le-leb room (length buffer) enough)
        ∙ ap (λ (t : Table). passed (bytes_of t)) (sym found.2.table))
        in
        (ap passed (appends_count does whole) ∙ is.0, appends_front does whole ∙ is.1)
