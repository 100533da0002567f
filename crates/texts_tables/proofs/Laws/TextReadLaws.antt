-- Laws of reading a text as the loop over its lines goes.
-- Assumes nothing.
use Rattle.std.specs.Prelude.{◌≡◌, refl, ℕ, suc, ◌+◌, ◌-◌, ◌≤◌, ◌<◌, true, false, ◌&&◌}
use Rattle.std.proofs.Math.Path.{sym, ap, subst}
use Rattle.std.proofs.Common.{◌∙◌, add-one, arith, le-leb}
use mathlib.Core.List.{List, [], ◌∷◌}
use Rattle.std.proofs.lemmas.Bool.{lt-leb}
use Rattle.std.proofs.Math.Dec.{leb}
use Rattle.std.proofs.Math.ListN.{length, take, drop, length-drop, drop_of_length-le}
use Rattle.std.proofs.Math.Seq.{take_all}
use Rattle.notation.specs.Checked.{Checked, refused, passed, mapped, require, ◌>>=◌, ◌>>◌}
use Rattle.notation.specs.Laws.CheckedLaws.{require_holds, require_fails, bind_refused, bind_goes}
use Rattle.notation.specs.Laws.TestLaws.{and_first}
use Rattle.notation.specs.Texts.{Text}
use Rattle.texts_reading.specs.Laws.PartEndLaws.{first_part, later_parts, parts_split, part_end_ends, part_taken, later_past}
use Rattle.texts_reading.specs.Laws.PartEndLaws.{past_separator, part_end_within}
use Rattle.taskfile.specs.declared.Table.{Table}
use Rattle.taskfile.specs.declared.refusals.Refused.{Refused}
use Rattle.taskfile.specs.Code.Refusals.{number_of}
use Rattle.taskfile.specs.Tables.{empty_table}
use Rattle.texts.specs.declared.Form.{Form}
use Rattle.texts.specs.declared.ReadLine.{ReadLine}
use Rattle.texts.specs.TextTables.{table_of}
use Rattle.texts.specs.Code.AddedLines.{add_part, add_lines}
use Rattle.texts.specs.Code.LineParts.{part_end, held}
use Rattle.texts.specs.Grammar.{Line, row_of, at_window, at_tasks}
use Rattle.texts.proofs.Laws.AddedLinesLaws.{lines_added}
use Rattle.texts.proofs.Laws.GrammarLaws.{text_spelled}
use Rattle.texts.specs.Reading.{parts, is_empty, line_read, lines_read, text_read}
use Rattle.texts_tables.specs.Code.PartFields.{PartFits}
use Rattle.texts_tables.proofs.Laws.PartFieldLaws.{part_padded}
use Rattle.texts_tables.specs.Code.TableReading.{table_read}
use Rattle.texts_tables.proofs.Laws.LineAnswerLaws.{line_read_at, answer_refused, Answered}
use Rattle.texts_tables.proofs.Laws.LineAnswerLaws.{answer_passed, answer_fits}

-- ---- the table beside the lines

-- one line more in front of those that were read
line_in_front : (c : Checked ℕ (List Line)) (t : Table) (l : Line)
    → ◌>>=◌ c (λ lines. passed (add_lines (add_part t l.form l.numbers) lines))
    ≡ ◌>>=◌ {P = ℕ} (◌>>=◌ c (λ lines. passed (l ∷ lines))) (λ lines. passed (add_lines t lines))
unfolding ◌>>=◌ add_lines
line_in_front (refused number place) t l = refl
line_in_front (passed lines) t l = refl

-- reading with the table is reading the lines, and then adding them to the table
table_read_agreed : (t : Table) (k stage : ℕ) (ps : List Text)
    → table_read t k stage ps ≡ ◌>>=◌ (lines_read k stage ps) (λ lines. passed (add_lines t lines))
unfolding table_read lines_read ◌>>=◌ ◌>>◌ add_lines
table_read_agreed t k stage [] = refl
table_read_agreed t k stage (last ∷ []) = go (require (is_empty last && leb at_tasks stage) 60 k)
  where
    go : (c : Checked ℕ (Unit {0}))
        → ◌>>◌ c (passed t) ≡ ◌>>=◌ {P = ℕ} (◌>>◌ c (passed [])) (λ lines. passed (add_lines t lines))
    go (refused number place) = refl
    go (passed u) = refl
table_read_agreed t k stage (bytes ∷ next ∷ others) =
    go (line_read k stage bytes) (λ u j s. table_read_agreed u j s (next ∷ others))
  where
    go : (c : Checked ℕ Line)
        → ((u : Table) (j s : ℕ) → table_read u j s (next ∷ others)
        ≡ ◌>>=◌ (lines_read j s (next ∷ others)) (λ lines. passed (add_lines u lines)))
        → ◌>>=◌ c (λ l. table_read (add_part t l.form l.numbers) (suc k) (row_of l.form).stage (next ∷ others))
        ≡ ◌>>=◌ {P = ℕ} (◌>>=◌ c (λ l. ◌>>=◌ (lines_read (suc k) (row_of l.form).stage (next ∷ others))
        (λ lines. passed (l ∷ lines)))) (λ lines. passed (add_lines t lines))
    go (refused number place) later = refl
    go (passed l) later =
        later (add_part t l.form l.numbers) (suc k) (row_of l.form).stage
        ∙ line_in_front (lines_read (suc k) (row_of l.form).stage (next ∷ others)) t l

-- the lines of a text that was read add up to the table that they spell
lines_answered : (text : Text) (c : Checked ℕ (List Line)) → text_read text ≡ c
    → ◌>>=◌ c (λ lines. passed (add_lines empty_table lines)) ≡ mapped table_of c
unfolding ◌>>=◌ mapped
lines_answered text (refused number place) read = refl
lines_answered text (passed lines) read =
    let spells = text_spelled text lines read in ap (λ (t : Table). passed t) (lines_added lines spells.placed spells.good)

-- what the whole text comes to
text_answered : (text : Text) → table_read empty_table 0 at_window (parts 10 text) ≡ mapped table_of (text_read text)
unfolding text_read
text_answered text =
    table_read_agreed empty_table 0 at_window (parts 10 text)
    ∙ lines_answered text (lines_read 0 at_window (parts 10 text)) refl

-- ---- a line, and what comes after it

-- a line that is ended, and the text behind it
line_first : (t : Table) (k stage : ℕ) (bytes rest : Text)
    → table_read t k stage (bytes ∷ parts 10 rest)
    ≡ ◌>>=◌ (line_read k stage bytes) (λ l.
    table_read (add_part t l.form l.numbers) (suc k) (row_of l.form).stage (parts 10 rest))
unfolding table_read
line_first t k stage bytes rest =
    subst
    (λ (ps : List Text).
    table_read t k stage (bytes ∷ ps)
    ≡ ◌>>=◌ (line_read k stage bytes) (λ l.
    table_read (add_part t l.form l.numbers) (suc k) (row_of l.form).stage ps))
    (sym (parts_split 10 rest)) refl

module _ (text : Text) (from : ℕ) (within : from ≤ length text) where
  -- the line from a byte on, with a newline behind it
  parts_line : (to : ℕ) → to ≡ part_end 10 text from → to < length text
      → parts 10 (drop from text) ≡ take (to - from) (drop from text) ∷ parts 10 (drop (to + 1) text)
  unfolding first_part later_parts
  parts_line to is = subst
      (λ (n : ℕ). n < length text → parts 10 (drop from text)
      ≡ take (n - from) (drop from text) ∷ parts 10 (drop (n + 1) text)) (sym is)
      (λ ended.
      let end = part_end 10 text from in
      let behind = past_separator 10 text end ended ((part_end_ends 10 text from within).stands ended) in
      parts_split 10 (drop from text)
      ∙ (λ i. part_taken 10 text from i ∷ (sym (later_past 10 text from) ∙ behind) i))

  -- and without one
  parts_unended : part_end 10 text from ≡ length text → parts 10 (drop from text) ≡ drop from text ∷ []
  unfolding first_part later_parts parts
  parts_unended unended =
      let end = part_end 10 text from in
      let none : drop end text ≡ [] = drop_of_length-le text {i = end} (omega arith) in
      let whole : take (end - from) (drop from text) ≡ drop from text =
      take_all (end - from) (drop from text) (omega (arith, length-drop from text)) in
      parts_split 10 (drop from text)
      ∙ (λ i. (part_taken 10 text from ∙ whole) i
      ∷ (sym (later_past 10 text from) ∙ ap (λ (l : Text). drop 1 (parts 10 l)) none) i)

-- ---- what stands after the last newline

some_empty : (bytes : Text) → 0 < length bytes → is_empty bytes ≡ false
unfolding is_empty
some_empty [] some = absurd (omega arith)
some_empty (b ∷ bytes) some = refl

module _ (t : Table) (k stage : ℕ) (last : Text) where
  last_refused : (is_empty last && leb at_tasks stage) ≡ false → table_read t k stage (last ∷ []) ≡ refused 60 k
  unfolding table_read
  last_refused fails = require_fails (is_empty last && leb at_tasks stage) 60 k (passed t) fails

  last_passed : (is_empty last && leb at_tasks stage) ≡ true → table_read t k stage (last ∷ []) ≡ passed t
  unfolding table_read
  last_passed holds = require_holds (is_empty last && leb at_tasks stage) 60 k (passed t) holds

-- ---- the loop over the lines

-- the lines up to a byte were read, and spell a table
pub record TextReadTo (text : Text) (t : Table) (line stage from : ℕ) : Type 0 where
  pub rest : table_read t line stage (parts 10 (drop from text)) ≡ mapped table_of (text_read text)
  pub within : from ≤ length text
  pub few : line ≤ from

pub text_begun : (text : Text) (t : Table) → t ≡ empty_table → TextReadTo text t 0 0 0
text_begun text t is =
    record {
      rest = ap (λ (u : Table). table_read u 0 at_window (parts 10 text)) is ∙ text_answered text;
      within = omega arith;
      few = omega arith;
    }

module _ {text : Text} {t : Table} {line stage from : ℕ} (done : TextReadTo text t line stage from) where
  -- something stands there, and no newline ends it
  pub text_unended : from < length text → (to : ℕ) → to ≡ part_end 10 text from → to ≡ length text
      → refused 60 line ≡ mapped table_of (text_read text)
  text_unended stands to is unended =
      let fails : (is_empty (drop from text) && leb at_tasks stage) ≡ false =
      and_first (is_empty (drop from text)) (leb at_tasks stage)
      (some_empty (drop from text) (omega (arith, length-drop from text))) in
      sym (last_refused t line stage (drop from text) fails)
      ∙ sym (ap (table_read t line stage) (parts_unended text from done.within (sym is ∙ unended)))
      ∙ done.rest

  -- nothing stands there
  text_over : length text ≤ from → table_read t line stage ([] ∷ []) ≡ mapped table_of (text_read text)
  unfolding parts
  text_over over =
      ap (λ (l : Text). table_read t line stage (parts 10 l)) (sym (drop_of_length-le text {i = from} over))
      ∙ done.rest

  pub text_short : length text ≤ from → stage < at_tasks → refused 60 line ≡ mapped table_of (text_read text)
  unfolding is_empty
  text_short over early = sym (last_refused t line stage [] (lt-leb at_tasks stage early)) ∙ text_over over

  pub text_whole : length text ≤ from → at_tasks ≤ stage → passed t ≡ mapped table_of (text_read text)
  unfolding is_empty
  text_whole over late = sym (last_passed t line stage [] (le-leb at_tasks stage late)) ∙ text_over over

-- the line from a byte on was found, with a newline behind it
pub record LineFound (text : Text) (t : Table) (line stage from to : ℕ) : Type 0 where
  pub done : TextReadTo text t line stage from
  pub is : to ≡ part_end 10 text from
  pub ended : to < length text

module _ {text : Text} {t : Table} {line stage from to : ℕ} (found : LineFound text t line stage from to) where
  bytes : Text
  bytes = take (to - from) (drop from text)

  later : Line → Checked ℕ Table
  later l =
      table_read (add_part t l.form l.numbers) (suc line) (row_of l.form).stage (parts 10 (drop (to + 1) text))

  text_next : ◌>>=◌ (line_read line stage bytes) later ≡ mapped table_of (text_read text)
  unfolding bytes later
  text_next =
      sym (ap (table_read t line stage) (parts_line text from found.done.within to found.is found.ended)
      ∙ line_first t line stage bytes (drop (to + 1) text))
      ∙ found.done.rest

  -- it is refused
  pub text_stopped : (e : Refused ℕ)
      → refused (number_of e.why) e.place ≡ mapped held (line_read line stage (take (to - from) (drop from text)))
      → refused (number_of e.why) e.place ≡ mapped table_of (text_read text)
  unfolding bytes
  text_stopped e read = sym (bind_refused later (answer_refused e read)) ∙ text_next

  -- it passes
  module _ (r : ReadLine)
      (read : passed r ≡ mapped held (line_read line stage (take (to - from) (drop from text)))) where
    line_answered : Answered r (line_read line stage bytes)
    unfolding bytes
    line_answered = answer_passed (line_read_at line stage bytes) r read

    pub numbers_fit : PartFits r.form r.numbers
    numbers_fit = answer_fits line_answered

    pub text_more : (u : Table) → u ≡ add_part t r.form r.numbers → (s : ℕ) → s ≡ (row_of r.form).stage
        → TextReadTo text u (line + 1) s (to + 1)
    unfolding later
    text_more u isTable s isStage =
        let l = line_answered.line in
        let table : u ≡ add_part t l.form l.numbers =
        isTable
        ∙ (λ i. add_part t (line_answered.form i) (line_answered.numbers i))
        ∙ part_padded t l.form l.numbers in
        let stage : s ≡ (row_of l.form).stage =
        isStage ∙ ap (λ (f : Form). (row_of f).stage) line_answered.form in
        let rest = parts 10 (drop (to + 1) text) in
        record {
          rest =
              (λ i. table_read (table i) (add-one line i) (stage i) rest)
              ∙ sym (bind_goes later line_answered.passes)
              ∙ text_next;
          within = omega (arith, found.ended);
          few = omega (arith, found.done.few, found.is, part_end_within 10 text from found.done.within);
        }
