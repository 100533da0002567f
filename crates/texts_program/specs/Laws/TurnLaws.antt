-- Laws of what the program prints: a conversion's answer, and the line of a refusal.
-- Assumes nothing.
use Rattle.std.specs.Prelude.{◌≡◌, refl, ℕ, ◌≤◌, true, false, List, [], ◌∷◌, ◌++◌, length, get_or, take, drop, eqb}
use Rattle.std.proofs.Common.{sym, ap, ◌∙◌, arith, length-append, eq-eqb, ne_eqb}
use Rattle.std.proofs.Math.Seq.{take-append_seam}
use Rattle.notation.specs.Checked.{Checked, refused, passed}
use Rattle.notation.specs.Letters.{w}
use Rattle.notation.specs.Lists.{first_or}
use Rattle.notation.specs.Texts.{decimal}
use Rattle.notation.specs.Laws.TextSizes.{decimal_most, line_most}
use Rattle.sheets.specs.Sheets.{refused_line}
use Rattle.sheets.specs.SheetWords.{refused_word}
use Rattle.notation_buffers.specs.Code.Writing.{Appends}
use Rattle.notation_buffers.specs.Laws.WritingLaws.{appends_count, appends_front, appends_length, appends_within}
use Rattle.writer.specs.declared.WriteAnswer.{WriteAnswer}
use Rattle.writer.specs.WriteEntries.{answer_of, after_of}
use Rattle.texts.specs.TextEntries.{text_room, to_file_answer, to_file_after, to_text_answer, to_text_after, filed, texted}
use Rattle.texts.specs.Turned.{begins_text, shown, turned}
use Rattle.texts_program.specs.Code.Conversions.{ConvertedAs}

-- ---- what begins a text

pub begins_text_none : (bytes : List ℕ) → length bytes ≡ 0 → false ≡ begins_text bytes
unfolding begins_text first_or
begins_text_none [] none = refl
begins_text_none (b ∷ bytes) none = absurd (omega (arith, none))

pub begins_text_first : (bytes : List ℕ) → (length bytes ≡ 0 → ⊥) → eqb (get_or bytes 0 0) w ≡ begins_text bytes
unfolding begins_text first_or
begins_text_first [] more = absurd (more refl)
begins_text_first (b ∷ bytes) more = refl

-- ---- a conversion

-- what was written is within the target
outcome_within : (c : Checked ℕ (List ℕ)) (target : List ℕ) → (answer_of c).length ≤ length (after_of c target)
unfolding answer_of after_of
outcome_within (refused number place) target = omega arith
outcome_within (passed bytes) target = omega (arith, length-append bytes (drop (length bytes) target))

-- an answer and a target that a check comes to are what the bytes turn into, if that is what is shown of the check
outcome_shown : (c : Checked ℕ (List ℕ)) (bytes target : List ℕ) {x : WriteAnswer} {after : List ℕ}
    → shown (answer_of c) (after_of c target) ≡ turned bytes target → (x ≡ answer_of c) × (after ≡ after_of c target)
    → ConvertedAs bytes target x after
outcome_shown c bytes target turns made =
    record {
      showing = (λ j. shown (made.0 j) (made.1 j)) ∙ turns;
      within =
          omega (
            arith,
            ap (λ (y : WriteAnswer). y.length) made.0,
            ap (λ (l : List ℕ). length l) made.1,
            outcome_within c target,
          );
    }

-- a text, and a file
pub text_converted : (bytes target : List ℕ) {x : WriteAnswer} {after : List ℕ} → true ≡ begins_text bytes
    → (x ≡ to_file_answer bytes target) × (after ≡ to_file_after bytes target) → ConvertedAs bytes target x after
unfolding turned to_file_answer to_file_after
text_converted bytes target begins made =
    outcome_shown (filed bytes target) bytes target (rw (sym begins) refl) made

pub file_converted : (bytes target : List ℕ) {x : WriteAnswer} {after : List ℕ} → false ≡ begins_text bytes
    → (x ≡ to_text_answer bytes target) × (after ≡ to_text_after bytes target) → ConvertedAs bytes target x after
unfolding turned to_text_answer to_text_after
file_converted bytes target begins made =
    outcome_shown (texted bytes target) bytes target (rw (sym begins) refl) made

-- ---- what is printed

-- number 0: the bytes up to the length
pub shows_bytes : (x : WriteAnswer) (after : List ℕ) → x.number ≡ 0 → take x.length after ≡ shown x after
unfolding shown
shows_bytes x after zero = rw (eq-eqb x.number 0 zero) refl

-- the line of a refusal is short
refused_short : (number place : ℕ) → length (refused_line number place) ≤ text_room
unfolding refused_line refused_word
refused_short number place =
    omega (
      arith,
      line_most 21 refused_word (decimal number ∷ decimal place ∷ [])
          (omega (arith, decimal_most number), (omega (arith, decimal_most place), tt)),
    )

pub shows_refusal : (x : WriteAnswer) (after : List ℕ) {before printed : List ℕ} {n : ℕ} → text_room ≤ length before
    → (x.number ≡ 0 → ⊥) → Appends (length before) before 0 (refused_line x.number x.place) printed n
    → take n printed ≡ shown x after
unfolding shown
shows_refusal x after {before} {printed} {n} enough some puts =
    let bytes = refused_line x.number x.place in
    let short : length bytes ≤ length before = omega (arith, enough, refused_short x.number x.place) in
    let count : n ≡ length bytes = appends_count puts short in
    let is : printed ≡ bytes ++ drop (length bytes) before = appends_front puts short in
    rw (ne_eqb x.number 0 some)
    ((λ j. take (count j) (is j)) ∙ take-append_seam bytes (drop (length bytes) before))

pub refusal_within : {before bytes printed : List ℕ} {n : ℕ} → Appends (length before) before 0 bytes printed n
    → n ≤ length printed
refusal_within puts = omega (arith, appends_within puts (omega arith), appends_length puts (omega arith))
