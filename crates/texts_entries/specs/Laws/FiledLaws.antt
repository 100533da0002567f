-- What `text_to_file` answers, by the case that its code is in: a text that is too long, one that is not read, and one
-- whose table the writer judges.
-- Assumes nothing.
use Rattle.std.specs.Prelude.{◌≡◌, List, length, leb}
use Rattle.std.proofs.Math.Path.{refl, sym, ap}
use Rattle.std.proofs.Common.{◌∙◌, arith, le-leb}
use Prim.Native.Nat.{ℕ, zero, suc, ◌+◌, ◌≤◌, ◌<◌}
use Rattle.std.proofs.lemmas.Bool.{lt-leb}
use Rattle.notation.specs.Checked.{Checked, refused, passed, mapped, placed_by, ◌>>=◌}
use Rattle.notation.specs.Laws.CheckedLaws.{bind_goes, bind_refused, require_holds, require_fails}
use Rattle.taskfile.specs.declared.Table.{Table}
use Rattle.writer.specs.declared.WriteAnswer.{WriteAnswer}
use Rattle.writer.specs.WriteEntries.{written, answer_of, after_of, write_answer, write_after}
use Rattle.writer_entries.specs.Laws.WrittenTableLaws.{refusal}
use Rattle.texts.specs.Grammar.{Line}
use Rattle.texts.specs.Reading.{text_read}
use Rattle.texts.specs.TextEntries.{text_room, line_of_record, filed, to_file_answer, to_file_after}
use Rattle.texts.specs.TextTables.{table_of}

-- ---- places led to lines

-- the answer at the line of a record
abbrev pub lined : WriteAnswer → WriteAnswer
lined x = record { number = x.number; place = line_of_record x.place; length = x.length }

-- the line of the header, and of any other record
pub lined_first : (x : WriteAnswer) → x.place ≡ 0 → x ≡ lined x
unfolding line_of_record
lined_first x is =
    let same = first x.place is in
    λ j. record { number = x.number; place = same j; length = x.length }
  where
    first : (place : ℕ) → place ≡ 0 → place ≡ line_of_record place
    first zero is = refl
    first (suc place) is = absurd (omega (arith, is))

pub lined_later : (x : WriteAnswer) → (x.place ≡ 0 → ⊥)
    → record { number = x.number; place = x.place + 1; length = x.length } ≡ lined x
unfolding line_of_record
lined_later x later =
    let same = next x.place later in
    λ j. record { number = x.number; place = same j; length = x.length }
  where
    next : (place : ℕ) → (place ≡ 0 → ⊥) → place + 1 ≡ line_of_record place
    next zero later = absurd (later refl)
    next (suc place) later = omega arith

lined_answer : (c : Checked ℕ (List ℕ)) (buffer : List ℕ)
    → (answer_of (placed_by line_of_record c) ≡ lined (answer_of c))
    × (after_of (placed_by line_of_record c) buffer ≡ after_of c buffer)
unfolding answer_of after_of placed_by line_of_record
lined_answer (refused number place) buffer = (refl, refl)
lined_answer (passed bytes) buffer = (refl, refl)

-- ---- the three cases

module _ (text file : List ℕ) where
  pub filed_long : text_room < length text
      → (refusal 62 0 ≡ to_file_answer text file) × (file ≡ to_file_after text file)
  unfolding to_file_answer to_file_after filed answer_of after_of
  filed_long long =
      let is : filed text file ≡ refused 62 0 =
      require_fails (leb (length text) text_room) 62 0 _ (lt-leb (length text) text_room long) in
      (sym (ap answer_of is), sym (ap (λ (c : Checked ℕ (List ℕ)). after_of c file) is))

  module _ (short : length text ≤ text_room) where
    -- what is done with the lines, once the text is short enough
    going : filed text file ≡ ◌>>=◌ (text_read text) (λ lines. placed_by line_of_record (written (table_of lines) file))
    unfolding filed
    going = require_holds (leb (length text) text_room) 62 0 _ (le-leb (length text) text_room short)

    pub filed_unread : (number place : ℕ) → refused number place ≡ mapped table_of (text_read text)
        → (refusal number place ≡ to_file_answer text file) × (file ≡ to_file_after text file)
    unfolding to_file_answer to_file_after mapped answer_of after_of
    filed_unread number place is = go (text_read text) refl is
      where
        go : (c : Checked ℕ (List Line)) → text_read text ≡ c → refused number place ≡ mapped table_of c
            → (refusal number place ≡ answer_of (filed text file)) × (file ≡ after_of (filed text file) file)
        go (refused n p) e same =
            let done : filed text file ≡ refused n p = going ∙ bind_refused _ e in
            let numbers : number ≡ n = cc in
            let places : place ≡ p = cc in (
              (λ i. refusal (numbers i) (places i)) ∙ sym (ap answer_of done),
              sym (ap (λ (c : Checked ℕ (List ℕ)). after_of c file) done),
            )
        go (passed lines) e same = cc

    -- the answer that the writer gives for the table, with its place led to a line
    pub filed_judged : (t : Table) → passed t ≡ mapped table_of (text_read text) → {x : WriteAnswer} {after : List ℕ}
        → x ≡ write_answer t file → after ≡ write_after t file
        → (lined x ≡ to_file_answer text file) × (after ≡ to_file_after text file)
    unfolding to_file_answer to_file_after mapped write_answer write_after
    filed_judged t is {x} {after} answers writes = go (text_read text) refl is
      where
        go : (c : Checked ℕ (List Line)) → text_read text ≡ c → passed t ≡ mapped table_of c
            → (lined x ≡ answer_of (filed text file)) × (after ≡ after_of (filed text file) file)
        go (refused number place) e same = cc
        go (passed lines) e same =
            let isTable : t ≡ table_of lines = cc in
            let made = written (table_of lines) file in
            let done : filed text file ≡ placed_by line_of_record made = going ∙ bind_goes _ e in
            let led = lined_answer made file in (
              ap lined
                  (answers ∙ ap (λ (u : Table). answer_of (written u file)) isTable)
                  ∙ sym led.0 ∙ sym (ap answer_of done),
              writes ∙ ap (λ (u : Table). after_of (written u file) file) isTable
                  ∙ sym led.1 ∙ sym (ap (λ (c : Checked ℕ (List ℕ)). after_of c file) done),
            )
