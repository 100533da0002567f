-- Laws of the parts of a text: the first, where it ends, and those after it.
-- Assumes nothing.
use Rattle.std.specs.Prelude.{◌≡◌, get_or, Bool, true, false, cond, eqb, ltb, position, Some, None}
use Rattle.std.specs.List.{position_or_len}
use Rattle.std.proofs.Math.Path.{refl, sym, ap}
use Rattle.std.proofs.Common.{◌∙◌, arith, add-one, length-drop, drop_of_length-le, drop-cons, drop-drop, get_or-drop, eq-eqb, ne_eqb, ltb-false}
use Prim.Native.Nat.{ℕ, suc, ◌+◌, ◌-◌, ◌≤◌, ◌<◌}
use Rattle.std.proofs.Math.Decide.{ℕ_discrete}
use mathlib.Core.List.{List, [], ◌∷◌}
use Rattle.std.proofs.Math.ListN.{length, take, drop}
use Rattle.notation.specs.Lists.{first_or}
use Rattle.notation.specs.Texts.{Text}
use Rattle.texts.specs.Reading.{begins, parts}
use Rattle.texts.specs.Code.LineParts.{part_end, words_past}
use Rattle.texts.proofs.Laws.SeparatorLaws.{parts_some, parts_ended, parts_begun}
use Rattle.texts_reading.specs.Code.NumeralParts.{PartEnds}

-- the place that was found, or none
position_found : (test : ℕ → Bool) (bytes : Text) {k : ℕ} → Some k ≡ position test bytes
    → k ≡ position_or_len test bytes
position_found test bytes e = go (ltb (position_or_len test bytes) (length bytes)) e
  where
    go : (b : Bool) {k n : ℕ} → Some k ≡ cond b (Some n) None → k ≡ n
    go true e = cc
    go false e = cc

position_missing : (test : ℕ → Bool) (bytes : Text) → None ≡ position test bytes
    → length bytes ≤ position_or_len test bytes
position_missing test bytes e = go (position_or_len test bytes) (length bytes) e
  where
    none_only : (b : Bool) (n : ℕ) → None ≡ cond b (Some n) None → b ≡ false
    none_only true n e = cc
    none_only false n e = refl

    go : (n m : ℕ) → None ≡ cond (ltb n m) (Some n) None → m ≤ n
    go n m e = ltb-false n m (none_only (ltb n m) n e)

module _ (separator : ℕ) where
  -- the first of a text's parts, and the others
  unfoldable pub first_part : Text → Text
  first_part bytes = first_or [] (parts separator bytes)

  unfoldable pub later_parts : Text → List Text
  later_parts bytes = drop 1 (parts separator bytes)

  -- ---- one byte more: it ends the first part, or begins it

  begins_first : (b : ℕ) (ps : List Text) → first_or [] (begins b ps) ≡ b ∷ first_or [] ps
  unfolding begins first_or
  begins_first b [] = refl
  begins_first b (p ∷ ps) = refl

  begins_later : (b : ℕ) (ps : List Text) → drop 1 (begins b ps) ≡ drop 1 ps
  unfolding begins
  begins_later b [] = refl
  begins_later b (p ∷ ps) = refl

  module _ (b : ℕ) (bytes : Text) where
    first_part_ended : b ≡ separator → first_part (b ∷ bytes) ≡ []
    unfolding first_part first_or
    first_part_ended e = ap (first_or []) (parts_ended separator b bytes e)

    first_part_begun : (b ≡ separator → ⊥) → first_part (b ∷ bytes) ≡ b ∷ first_part bytes
    unfolding first_part
    first_part_begun other =
        ap (first_or []) (parts_begun separator b bytes other) ∙ begins_first b (parts separator bytes)

    later_ended : b ≡ separator → later_parts (b ∷ bytes) ≡ parts separator bytes
    unfolding later_parts
    later_ended e = ap (drop 1) (parts_ended separator b bytes e)

    later_begun : (b ≡ separator → ⊥) → later_parts (b ∷ bytes) ≡ later_parts bytes
    unfolding later_parts
    later_begun other = ap (drop 1) (parts_begun separator b bytes other) ∙ begins_later b (parts separator bytes)

  first_part_none : first_part [] ≡ []
  unfolding first_part parts first_or
  first_part_none = refl

  -- ---- the first part of bytes

  -- the parts are the first and the others
  pub parts_split : (bytes : Text) → parts separator bytes ≡ first_part bytes ∷ later_parts bytes
  unfolding first_part later_parts first_or
  parts_split bytes =
      let some = (parts_some separator bytes).2 in
      some ∙ sym (λ i. first_or [] (some i) ∷ drop 1 (some i))

  -- it stands at the front
  first_part_taken : (bytes : Text) → first_part bytes ≡ take (length (first_part bytes)) bytes
  first_part_taken [] = rw first_part_none refl
  first_part_taken (b ∷ bytes) =
      elim (ℕ_discrete b separator) [
        | yes e ↦ rw (first_part_ended b bytes e) refl
        | no other ↦ rw (first_part_begun b bytes other) (ap (λ (l : Text). b ∷ l) (first_part_taken bytes))
      ]

  first_part_fits : (bytes : Text) → length (first_part bytes) ≤ length bytes
  first_part_fits [] = rw first_part_none (omega arith)
  first_part_fits (b ∷ bytes) =
      elim (ℕ_discrete b separator) [
        | yes e ↦ rw (first_part_ended b bytes e) (omega arith)
        | no other ↦ rw (first_part_begun b bytes other) (omega (arith, first_part_fits bytes))
      ]

  -- it ends at the first separator
  first_part_position : (bytes : Text) → position_or_len (λ b. eqb b separator) bytes ≡ length (first_part bytes)
  first_part_position [] = rw first_part_none refl
  first_part_position (b ∷ bytes) =
      elim (ℕ_discrete b separator) [
        | yes e ↦ rw (eq-eqb b separator e, first_part_ended b bytes e) refl
        | no other ↦
            rw (ne_eqb b separator other, first_part_begun b bytes other)
            (ap (λ (n : ℕ). 1 + n) (first_part_position bytes) ∙ omega arith)
      ]

  -- a separator stands behind it, if anything does
  first_part_stops : (bytes : Text) → length (first_part bytes) < length bytes
      → get_or bytes (length (first_part bytes)) 0 ≡ separator
  first_part_stops [] lt = absurd (omega arith)
  first_part_stops (b ∷ bytes) lt =
      elim (ℕ_discrete b separator) [
        | yes e ↦ rw (first_part_ended b bytes e) e
        | no other ↦
            (let more = first_part_begun b bytes other in
            rw more (first_part_stops bytes (omega (arith, ap length more))))
      ]

  -- the other parts are those behind it
  later_behind : (bytes : Text) → later_parts (drop (length (first_part bytes)) bytes) ≡ later_parts bytes
  later_behind [] = rw first_part_none refl
  later_behind (b ∷ bytes) =
      elim (ℕ_discrete b separator) [
        | yes e ↦ rw (first_part_ended b bytes e) refl
        | no other ↦ rw (first_part_begun b bytes other) (later_behind bytes ∙ sym (later_begun b bytes other))
      ]

  -- ---- the part of a text that begins at a byte

  module _ (text : Text) (from : ℕ) where
    part_end_is : part_end separator text from ≡ from + length (first_part (drop from text))
    unfolding part_end first_part
    part_end_is = refl

    pub part_end_within : from ≤ length text
        → (from ≤ part_end separator text from) × (part_end separator text from ≤ length text)
    part_end_within le =
        let few = first_part_fits (drop from text) in
        let left = length-drop from text in
        (omega (arith, part_end_is), omega (arith, part_end_is, few, left))

    pub part_end_ends : from ≤ length text → PartEnds separator text (part_end separator text from)
    part_end_ends le = record {
      within = (part_end_within le).1;
      stands = λ lt.
          ap (λ (n : ℕ). get_or text n 0) part_end_is
          ∙ sym (get_or-drop from text (length (first_part (drop from text))) 0)
          ∙ first_part_stops (drop from text) (omega (arith, part_end_is, length-drop from text));
    }

    pub part_taken : first_or [] (parts separator (drop from text))
        ≡ take (part_end separator text from - from) (drop from text)
    unfolding first_part
    part_taken =
        let size : length (first_part (drop from text)) ≡ part_end separator text from - from =
        omega (arith, part_end_is) in
        first_part_taken (drop from text) ∙ ap (λ (n : ℕ). take n (drop from text)) size

    -- the parts after it are those past its end
    pub later_past : drop 1 (parts separator (drop (part_end separator text from) text))
        ≡ drop 1 (parts separator (drop from text))
    unfolding later_parts
    later_past =
        ap (λ (n : ℕ). later_parts (drop n text)) part_end_is
        ∙ ap later_parts (sym (drop-drop (length (first_part (drop from text))) from text))
        ∙ later_behind (drop from text)

    -- ---- byte after byte

    pub part_end_none : length text ≤ from → part_end separator text from ≡ from
    part_end_none le =
        let none : length (first_part (drop from text)) ≡ 0 =
        ap (λ (l : Text). length (first_part l)) (drop_of_length-le text le) ∙ ap length first_part_none in
        omega (arith, part_end_is, none)

    module _ (lt : from < length text) where
      pub part_end_stops : get_or text from 0 ≡ separator → part_end separator text from ≡ from
      part_end_stops e =
          let none : length (first_part (drop from text)) ≡ 0 =
          ap (λ (l : Text). length (first_part l)) (drop-cons text from 0 lt)
          ∙ ap length (first_part_ended (get_or text from 0) (drop (suc from) text) e) in
          omega (arith, part_end_is, none)

      pub part_end_goes : (get_or text from 0 ≡ separator → ⊥)
          → part_end separator text from ≡ part_end separator text (from + 1)
      unfolding part_end first_part
      part_end_goes other =
          let more : length (first_part (drop from text)) ≡ suc (length (first_part (drop (from + 1) text))) =
          ap (λ (l : Text). length (first_part l)) (drop-cons text from 0 lt)
          ∙ ap length (first_part_begun (get_or text from 0) (drop (suc from) text) other)
          ∙ ap (λ (n : ℕ). suc (length (first_part (drop n text)))) (sym (add-one from)) in
          omega (arith, more)

      -- past a separator come the parts of what stands behind it
      pub past_separator : get_or text from 0 ≡ separator
          → drop 1 (parts separator (drop from text)) ≡ parts separator (drop (from + 1) text)
      unfolding later_parts
      past_separator e =
          ap later_parts (drop-cons text from 0 lt)
          ∙ later_ended (get_or text from 0) (drop (suc from) text) e
          ∙ ap (λ (n : ℕ). parts separator (drop n text)) (sym (add-one from))

    -- ---- the first separator

    pub part_end_found : from ≤ length text → {size : ℕ}
        → Some size ≡ position (λ b. eqb b separator) (drop from text) → from + size ≡ part_end separator text from
    part_end_found le found =
        omega (
          arith,
          part_end_is,
          first_part_position (drop from text),
          position_found (λ b. eqb b separator) (drop from text) found,
        )

    pub part_end_missing : from ≤ length text → None ≡ position (λ b. eqb b separator) (drop from text)
        → length text ≡ part_end separator text from
    part_end_missing le missing =
        omega (
          arith,
          part_end_is,
          first_part_position (drop from text),
          position_missing (λ b. eqb b separator) (drop from text) missing,
          (part_end_within le).1,
          length-drop from text,
        )

-- ---- the words of a line

-- where the line ends, no word comes
pub words_past_none : (line : Text) (at : ℕ) → length line ≤ at → words_past line at ≡ []
unfolding words_past parts
words_past_none line at le = rw (drop_of_length-le line {i = at} le) refl

-- past a space comes a word, and then those past its end
pub words_past_more : (line : Text) (at : ℕ) → at < length line → get_or line at 0 ≡ 32
    → words_past line at
    ≡ take (part_end 32 line (at + 1) - (at + 1)) (drop (at + 1) line) ∷ words_past line (part_end 32 line (at + 1))
unfolding words_past first_part later_parts
words_past_more line at lt e =
    past_separator 32 line at lt e
    ∙ parts_split 32 (drop (at + 1) line)
    ∙ (λ i. part_taken 32 line (at + 1) i ∷ sym (later_past 32 line (at + 1)) i)
