-- The demand of E5 is met: what both conversions are worth.
-- Assumes nothing.
use Rattle.std.specs.Prelude.{◌≡◌, List, leb}
use Rattle.std.proofs.Common.{sym, subst, ◌∙◌, arith, le-leb}
use Rattle.std.proofs.Math.Path.{ap}
use Prim.Native.Nat.{ℕ, ◌≤◌}
use Rattle.std.proofs.Math.ListN.{length}
use Rattle.notation.specs.Checked.{Checked, passed, require, placed_by}
use Rattle.notation.specs.Laws.CheckedLaws.{passed_same, bind_passed, bind_goes, then_passed, then_goes}
use Rattle.notation.specs.Laws.CheckedLaws.{require_holds, placed_passed}
use Rattle.notation.specs.Laws.NumberedLaws.{Numbered, bind_numbered, then_numbered, require_numbered, placed_numbered}
use Rattle.notation.specs.Texts.{Text}
use Rattle.taskfile.specs.declared.Table.{Table}
use Rattle.taskfile.specs.Chains.{Chains, chains_of}
use Rattle.taskfile.specs.Records.{File}
use Rattle.taskfile.specs.Tables.{table_at}
use Rattle.timing.specs.Accepted.{Accepted, accept}
use Rattle.timing.proofs.Laws.AcceptedLaws.{file_accepted}
use Rattle.writer.specs.Values.{Bytes, Fits}
use Rattle.writer.specs.Covered.{covered}
use Rattle.writer.specs.Fields.{fields, accept_table}
use Rattle.writer.specs.Layout.{layout}
use Rattle.writer.specs.SameTable.{SameTable}
use Rattle.writer.specs.WalkOrder.{in_walk_order}
use Rattle.writer.specs.WriteEntries.{file_room, written, answer_of}
use Rattle.writer.proofs.Laws.AcceptLaidLaws.{accept_laid}
use Rattle.writer.proofs.Laws.CheckedTableLaws.{fields_within}
use Rattle.writer.proofs.Laws.CoveredLaws.{covered_same}
use Rattle.writer.proofs.Laws.EntryDemandLaws.{written_room, zero_written, bytes_written, fields_sound, table_covered}
use Rattle.writer.proofs.Laws.EntryDemandLaws.{table_read_lem, table_accepted}
use Rattle.writer.proofs.Laws.FieldsRead.{covered_read, fits_read}
use Rattle.writer.proofs.Laws.WalkOrderLaws.{walk_order}
use Rattle.writer.proofs.Laws.WriteRefusals.{written_numbered}
use Rattle.texts.specs.Grammar.{Line, joined, Spells}
use Rattle.texts.specs.Reading.{text_read}
use Rattle.texts.specs.TextDemand.{file_written, text_written, AcceptedText, longest_text, OfTable, OfText}
use Rattle.texts.specs.TextDemand.{TextDemand}
use Rattle.texts.specs.TextEntries.{text_room, line_of_record, filed, texted, to_file_answer, to_file_after}
use Rattle.texts.specs.TextEntries.{to_text_answer, to_text_after}
use Rattle.texts.specs.TextTables.{table_of, table_lines, text_of}
use Rattle.texts.proofs.Laws.GrammarLaws.{spelled_read, text_spelled, lines_unique}
use Rattle.texts.proofs.Laws.LinesBackLaws.{Held, lines_back}
use Rattle.texts.proofs.Laws.LongestText.{file_read, text_longest}
use Rattle.texts.proofs.Laws.SoundTableLaws.{table_spells}
use Rattle.texts.proofs.Laws.SpelledFits.{table_fits}
use Rattle.texts.proofs.Laws.SpelledTableLaws.{table_spelled}
use Rattle.texts.proofs.Laws.TextFaults.{read_numbered}

-- ---- the table of a text

module _ (lines : List Line) {text : Text} (spells : Spells lines text) {a : Accepted}
    (e : accept_table (table_of lines) ≡ passed a) where
  spelled_fits : Fits (table_of lines)
  spelled_fits = table_fits lines spells.placed spells.good

  spelled_held : Held (table_of lines)
  spelled_held =
      let within = fields_within (table_of lines) spelled_fits (fields_sound (table_of lines) e) in
      record { tasks = within.0; locks = within.1; lengths = within.2 }

  -- its text is this text, and nothing stands past its counts
  spelled_lines : table_lines (table_of lines) ≡ lines
  spelled_lines = lines_back lines spells.placed spells.good spelled_held

  spelled_text : text_of (table_of lines) ≡ text
  unfolding text_of
  spelled_text = ap joined spelled_lines ∙ spells.bytes

  spelled_covered : covered (table_of lines) ≡ table_of lines
  spelled_covered =
      sym (table_spelled (table_of lines) spelled_fits (fields_sound (table_of lines) e)) ∙ ap table_of spelled_lines

-- ---- what is written

-- each number is at least 1, so number 0 says that bytes were written
filed_numbered : (text : Text) (target : List ℕ) → Numbered (filed text target)
unfolding filed
filed_numbered text target =
    then_numbered _ (require_numbered _ 62 _ (omega arith))
    (bind_numbered (text_read text) (read_numbered text)
    (λ lines. placed_numbered line_of_record (written (table_of lines) target) (written_numbered (table_of lines) target)))

-- what a text whose number is 0 consists of
record Filed (text : Text) (target : List ℕ) : Type 0 where
  lines : List Line
  accepted : Accepted
  spells : Spells lines text
  sound : accept_table (table_of lines) ≡ passed accepted
  bytes : filed text target ≡ passed (layout (table_of lines))

zero_filed : (text : Text) (target : List ℕ) → (to_file_answer text target).number ≡ 0 → Filed text target
unfolding to_file_answer filed written
zero_filed text target zero =
    let found = zero_written (filed text target) (filed_numbered text target) zero in
    let sized = then_passed (require (leb (length text) text_room) 62 0) _ found.1 in
    let read = bind_passed (text_read text) _ sized.2 in
    let t = table_of read.0 in
    let wrote = placed_passed line_of_record (written t target) read.2 in
    let judged = then_passed (accept_table t) _ wrote in
    let room = then_passed (require (leb file_room (length target)) 20 0) _ judged.2 in
    record {
      lines = read.0;
      accepted = judged.0;
      spells = text_spelled text read.0 read.1;
      sound = judged.1;
      bytes = found.1 ∙ ap (λ (file : File). passed file) (sym (passed_same room.2));
    }

-- the text of an accepted table is written as its layout
accepted_filed : (text : Text) (target : List ℕ) (lines : List Line) {a : Accepted} → length text ≤ text_room
    → file_room ≤ length target → Spells lines text → accept_table (table_of lines) ≡ passed a
    → filed text target ≡ passed (layout (table_of lines))
unfolding filed placed_by
accepted_filed text target lines short room spells e =
    let t = table_of lines in
    let wrote : written t target ≡ passed (layout t) = written_room t target room ∙ then_goes _ e in
    require_holds (leb (length text) text_room) 62 0 _ (le-leb (length text) text_room short)
    ∙ bind_goes _ (spelled_read text lines spells)
    ∙ ap (placed_by line_of_record) wrote

-- an accepted file is written as its table's text
accepted_texted : (f : File) (target : List ℕ) {a : Accepted} → text_room ≤ length target → accept f ≡ passed a
    → texted f target ≡ passed (text_of a.table)
unfolding texted
accepted_texted f target room e =
    bind_goes _ e ∙ require_holds (leb text_room (length target)) 20 0 _ (le-leb text_room (length target) room)

-- ---- the demand

-- an accepted text is no longer than the longest
text_fitting : (text : Text) → AcceptedText text → length text ≤ longest_text
text_fitting text accepted =
    let lines = accepted.0 in
    let spells = accepted.1 in
    let sound = accepted.2.1 in
    let t = table_of lines in
    let fit = spelled_fits lines spells sound in
    let same : accepted.2.0.table ≡ t = table_covered t sound ∙ spelled_covered lines spells sound in
    let short = text_longest (file_accepted (layout t) (accept_laid t fit ∙ sound)) (subst Fits (sym same) fit)
    (subst (λ (v : Table). fields v ≡ passed tt) (sym same) (fields_sound t sound)) in
    subst (λ (l : Text). length l ≤ longest_text) (ap text_of same ∙ spelled_text lines spells sound) short

-- the table that an accepted table's lines spell is accepted: it is the one read from the layout
table_kept : (t : Table) → Fits t → (a : Accepted) → accept_table t ≡ passed a
    → accept_table (table_of (table_lines t)) ≡ passed a
table_kept t fit a e =
    let reads = accept_laid t fit ∙ e in
    let read = file_read (layout t) reads in
    ap accept_table (table_spelled t fit (fields_sound t e) ∙ sym (table_covered t e) ∙ read.2)
    ∙ table_accepted (layout t) read.1 reads

of_table_lem : (t : Table) → Fits t → (a : Accepted) → accept_table t ≡ passed a → OfTable t
of_table_lem t fit a e =
    let sound = fields_sound t e in
    let spells = table_spells t fit sound in
    record {
      in_grammar = spells;
      spelled = subst (λ (v : Table). SameTable v t) (sym (table_spelled t fit sound)) (covered_same t fit sound);
      accepted = (table_lines t, spells, (a, table_kept t fit a e));
    }

text_accepted : (text : Text) (target : List ℕ) → file_room ≤ length target → AcceptedText text
    → (to_file_answer text target).number ≡ 0
unfolding to_file_answer answer_of
text_accepted text target room accepted =
    let lines = accepted.0 in
    let spells = accepted.1 in
    let sound = accepted.2.1 in
    let short : length text ≤ text_room = omega (arith, text_fitting text accepted) in
    ap (λ (c : Checked ℕ File). (answer_of c).number) (accepted_filed text target lines short room spells sound)

text_returned : (text : Text) (file target : List ℕ) → text_room ≤ length target → (to_file_answer text file).number ≡ 0
    → ((to_text_answer (file_written text file) target).number ≡ 0)
    × (text_written (file_written text file) target ≡ text)
unfolding file_written text_written to_file_answer to_file_after to_text_answer to_text_after answer_of
text_returned text file target room zero =
    let made = zero_filed text file zero in
    let t = table_of made.lines in
    let fit = spelled_fits made.lines made.spells made.sound in
    let f = layout t in
    let isFile : file_written text file ≡ f = bytes_written (filed text file) file f made.bytes in
    let reads : accept f ≡ passed made.accepted = accept_laid t fit ∙ made.sound in
    let isTable : made.accepted.table ≡ t =
    table_covered t made.sound ∙ spelled_covered made.lines made.spells made.sound in
    let isText : texted (file_written text file) target ≡ passed text =
    ap (λ (g : File). texted g target) isFile
    ∙ accepted_texted f target room reads
    ∙ ap (λ (v : Table). passed (text_of v)) isTable
    ∙ ap (λ (l : Text). passed l) (spelled_text made.lines made.spells made.sound) in (
      ap (λ (c : Checked ℕ Text). (answer_of c).number) isText,
      bytes_written (texted (file_written text file) target) target text isText,
    )

of_text : (text : Text) → OfText text
of_text text =
    record {
      unique = lines_unique text;
      accepted = λ target room. (
        λ zero.
            let made = zero_filed text target zero in
            (made.lines, made.spells, (made.accepted, made.sound)),
        text_accepted text target room,
      );
      undone = λ found. spelled_text found.0 found.1 found.2.1;
      fitting = text_fitting text;
      returned = text_returned text;
    }

module _ (f : File) (small : Bytes f) {c : Chains} (chained : chains_of f ≡ passed c) {a : Accepted}
    (e : accept f ≡ passed a) where
  -- the table that was read fits, is accepted, and is spelled by its lines
  file_spelled : table_of (table_lines (table_at f c)) ≡ table_at f c
  file_spelled =
      let t = table_at f c in
      table_spelled t (fits_read f small chained) (fields_sound t (table_accepted f chained e)) ∙ covered_read f chained

  file_returned : (text target : List ℕ) → text_room ≤ length text → file_room ≤ length target
      → ((to_text_answer f text).number ≡ 0)
      × ((to_file_answer (text_written f text) target).number ≡ 0)
      × (file_written (text_written f text) target ≡ in_walk_order f c)
  unfolding file_written text_written to_file_answer to_file_after to_text_answer to_text_after answer_of
  file_returned text target long room =
      let t = table_at f c in
      let fit = fits_read f small chained in
      let sound = fields_sound t (table_accepted f chained e) in
      let spells = table_spells t fit sound in
      let made : texted f text ≡ passed (text_of t) =
      accepted_texted f text long e ∙ ap (λ (v : Table). passed (text_of v)) (table_read_lem f chained e) in
      let isText : text_written f text ≡ text_of t = bytes_written (texted f text) text (text_of t) made in
      let accepts : accept_table (table_of (table_lines t)) ≡ passed a =
      ap accept_table file_spelled ∙ table_accepted f chained e in
      let short : length (text_of t) ≤ text_room =
      omega (arith, text_fitting (text_of t) (table_lines t, spells, (a, accepts))) in
      let isFile : filed (text_written f text) target ≡ passed (layout t) =
      ap (λ (l : Text). filed l target) isText
      ∙ accepted_filed (text_of t) target (table_lines t) short room spells accepts
      ∙ ap (λ (v : Table). passed (layout v)) file_spelled in (
        ap (λ (d : Checked ℕ Text). (answer_of d).number) made,
        ap (λ (d : Checked ℕ File). (answer_of d).number) isFile,
        bytes_written (filed (text_written f text) target) target (layout t) isFile ∙ walk_order f small chained,
      )

-- the demand of E5
pub text_demand : TextDemand
text_demand =
    record {
      of_tables = of_table_lem;
      of_texts = of_text;
      of_files = λ f small c chained a e. record { returned = file_returned f small chained e };
    }
