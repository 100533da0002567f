-- Laws of the operations' lines as the code has them: a table of their names and of how many fields each has. And of
-- the names as one text, with eight bytes for each, spaces after the name.
-- Assumes nothing.
use Rattle.std.specs.Prelude.{◌≡◌, refl, ℕ, zero, suc, ◌+◌, ◌-◌, ◌*◌, ◌≤◌, ◌<◌, Bool, List, [], ◌∷◌, ◌++◌, map, length}
use Rattle.std.specs.Prelude.{get_or, take, drop, replicate, leb}
use Rattle.std.proofs.Common.{ap, ◌∙◌, arith, leb-true}
use Rattle.std.proofs.lemmas.List.{get_or-map}
use Rattle.notation.specs.Lists.{all, each, same, up_to, from}
use Rattle.notation.specs.Laws.ElementLaws.{same_equal}
use Rattle.notation.specs.Laws.QuantifierLaws.{all_get_or}
use Rattle.notation.specs.Letters.{space}
use Rattle.notation.specs.Texts.{Text}
use Rattle.texts.specs.declared.Form.TheVariants.{InstructionLine}
use Rattle.texts.specs.Grammar.{Row, row_of, operation_rows, operation_row}
use Rattle.texts.proofs.Laws.EveryLaws.{tested_below}
use Rattle.texts.specs.Words.{end_word, load_word, store_word, set_word, add_word, subtract_word, less_word, equal_word}
use Rattle.texts.specs.Words.{pick_word, acquire_word, release_word, assert_word}
use Rattle.texts_reading.specs.declared.line_forms.OperationLine.{OperationLine}

-- the names as one text, and how long each is
unfoldable pub name_table : Text
unfolding each
name_table = each operation_rows (λ r. r.word ++ replicate (8 - length r.word) space)

unfoldable pub name_lengths : List ℕ
name_lengths = map (λ r. length r.word) operation_rows

-- and all that the names are made of
unfoldable pub names_opened : Unit {0}
unfolding name_table name_lengths each operation_rows end_word load_word store_word set_word add_word subtract_word less_word
    equal_word pick_word acquire_word release_word assert_word
names_opened = tt

-- the names and the numbers of fields, as lists
abbrev pub names_of : List OperationLine → List Text
names_of lines = map (λ (line : OperationLine). line.name.now) lines

abbrev pub counts_of : List OperationLine → List ℕ
counts_of lines = map (λ (line : OperationLine). line.fields) lines

abbrev pub row_names : List Text
row_names = map (λ (r : Row). r.word) operation_rows

abbrev pub row_counts : List ℕ
row_counts = map (λ (r : Row). length r.fields) operation_rows

-- the line of an operation is among those lists
pub name_got : (lines : List OperationLine) (o : ℕ) (d : OperationLine)
    → (get_or lines o d).name.now ≡ get_or (names_of lines) o d.name.now
name_got [] o d = refl
name_got (line ∷ lines) zero d = refl
name_got (line ∷ lines) (suc o) d = name_got lines o d

pub count_got : (lines : List OperationLine) (o : ℕ) (d : OperationLine)
    → (get_or lines o d).fields ≡ get_or (counts_of lines) o d.fields
count_got [] o d = refl
count_got (line ∷ lines) zero d = refl
count_got (line ∷ lines) (suc o) d = count_got lines o d

-- which have what the rows have
module _ (o operation : ℕ) (found : (o < 12) × (row_of (InstructionLine o) ≡ row_of (InstructionLine operation))) where
  pub name_at : get_or row_names o [] ≡ (row_of (InstructionLine operation)).word
  unfolding row_of operation_rows
  name_at =
      get_or-map (λ (r : Row). r.word) operation_rows o (operation_row end_word 0) [] (omega (arith, found.0))
      ∙ ap (λ (r : Row). r.word) found.1

  pub count_at : get_or row_counts o 0 ≡ length (row_of (InstructionLine operation)).fields
  unfolding row_of operation_rows
  count_at =
      get_or-map (λ (r : Row). length r.fields) operation_rows o (operation_row end_word 0) 0 (omega (arith, found.0))
      ∙ ap (λ (r : Row). length r.fields) found.1

-- ---- the names as one text

-- the table's part is the name
unfoldable part_names : ℕ → Bool
part_names o = same (take (get_or name_lengths o 0) (drop (8 * o) name_table)) (row_of (InstructionLine o)).word

name_in : (o : ℕ) → o < 12
    → take (get_or name_lengths o 0) (drop (8 * o) name_table) ≡ (row_of (InstructionLine o)).word
unfolding part_names names_opened row_of same all up_to from
name_in o below = same_equal _ _ (tested_below part_names 12 o refl below)

-- and no longer than its place
pub name_short : (o : ℕ) → get_or name_lengths o 0 ≤ 8
unfolding names_opened all
name_short o = leb-true (get_or name_lengths o 0) 8 (all_get_or (λ n. leb n 8) name_lengths o 0 refl refl)

-- for the row of an operation
pub name_part : (o operation : ℕ) → (o < 12) × (row_of (InstructionLine o) ≡ row_of (InstructionLine operation))
    → take (8 * o + get_or name_lengths o 0 - 8 * o) (drop (8 * o) name_table) ≡ (row_of (InstructionLine operation)).word
name_part o operation found =
    let long : 8 * o + get_or name_lengths o 0 - 8 * o ≡ get_or name_lengths o 0 = omega arith in
    ap (λ (n : ℕ). take n (drop (8 * o) name_table)) long ∙ name_in o found.0 ∙ ap (λ (r : Row). r.word) found.1

-- a word is held against that part
pub name_tested : (o : ℕ) (word : Text) → o < 12
    → same (take (8 * o + get_or name_lengths o 0 - 8 * o) (drop (8 * o) name_table)) word
    ≡ same (row_of (InstructionLine o)).word word
name_tested o word below = ap (λ (l : Text). same l word) (name_part o o (below, refl))
