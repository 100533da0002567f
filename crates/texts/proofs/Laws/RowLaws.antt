-- Laws of the grammar's rows of instructions: their fields are bytes, at most three, and the first of a, b and c, so an
-- instruction is read back from its line.
-- Assumes nothing.
use Rattle.std.specs.Prelude.{◌≡◌, refl, ℕ, ◌≤◌, ◌<◌, Bool, true, false, ◌&&◌, ◌||◌, List, [], ◌∷◌, length, get_or, take, leb, ltb, eqb}
use Rattle.std.proofs.Common.{sym, ap, ◌∙◌, arith, length-take, get_or-take, length-take-le, lt-ltb, le-ltb, leb-true, eqb-true}
use Rattle.std.proofs.Math.Decide.{dec_lt}
use Rattle.std.proofs.Math.ListN.{get_or-eq_default}
use Rattle.notation.specs.Laws.PaddedLaws.{every_take}
use Rattle.notation.specs.Laws.TestLaws.{and_both, and_holds, or_second, not_both}
use Rattle.notation.specs.Lists.{up_to, from, all}
use Rattle.notation.specs.Ordered.{Every}
use Rattle.taskfile.specs.declared.Instruction.{Instruction}
use Rattle.taskfile.specs.Records.{Use, unused, most, lock_number, uses_of, operation_uses, tidy_field, tidy_instruction}
use Rattle.writer.specs.Values.{ByteFields}
use Rattle.texts.specs.declared.Form.TheVariants.{InstructionLine}
use Rattle.texts.specs.Grammar.{line_with, row_of, operation_rows, byte_field, fits, in_body}
use Rattle.texts.proofs.Laws.EveryLaws.{tested_below}
use Rattle.texts.proofs.Laws.FormLaws.{operation_tested}
use Rattle.texts.proofs.Laws.LineReadLaws.{fits_length}
use Rattle.texts.specs.TextTables.{instruction_with, instruction_line}

-- how many fields an instruction's line has
unfoldable pub used_of : ℕ → ℕ
used_of operation = length (row_of (InstructionLine operation)).fields

-- ---- every row

-- its fields are bytes, at most three
pub used_bytes : (operation : ℕ) → all (λ limit. eqb limit byte_field) (row_of (InstructionLine operation)).fields ≡ true
unfolding operation_rows all
used_bytes operation = operation_tested (λ r. all (λ limit. eqb limit byte_field) r.fields) refl operation

pub used_few : (operation : ℕ) → used_of operation ≤ 3
unfolding used_of operation_rows all
used_few operation = leb-true (used_of operation) 3 (operation_tested (λ r. leb (length r.fields) 3) refl operation)

-- it may come in a body alone
pub operation_earliest : (operation : ℕ) → (row_of (InstructionLine operation)).earliest ≡ in_body
unfolding operation_rows all
operation_earliest operation = eqb-true _ in_body (operation_tested (λ r. eqb r.earliest in_body) refl operation)

pub operation_latest : (operation : ℕ) → (row_of (InstructionLine operation)).latest ≡ in_body
unfolding operation_rows all
operation_latest operation = eqb-true _ in_body (operation_tested (λ r. eqb r.latest in_body) refl operation)

pub operation_stage : (operation : ℕ) → (row_of (InstructionLine operation)).stage ≡ in_body
unfolding operation_rows all
operation_stage operation = eqb-true _ in_body (operation_tested (λ r. eqb r.stage in_body) refl operation)

-- ---- the fields that an operation uses are the first ones

unfoldable is_unused : Use → Bool
is_unused unused = true
is_unused (most n) = false
is_unused lock_number = false

-- fields from the first one past its line's on are unused
unfoldable used_first : ℕ → Bool
used_first operation =
    (ltb 0 (used_of operation) || is_unused (uses_of operation).a)
    && (ltb 1 (used_of operation) || is_unused (uses_of operation).b)
    && (ltb 2 (used_of operation) || is_unused (uses_of operation).c)

used_first_lem : (operation : ℕ) → operation < 12 → used_first operation ≡ true
unfolding all up_to from used_first used_of row_of operation_rows uses_of operation_uses is_unused
used_first_lem operation below = tested_below used_first 12 operation refl below

-- an unused field that is tidy is zero
unused_zero_lem : (u : Use) (x : ℕ) → is_unused u ≡ true → tidy_field u x ≡ true → x ≡ 0
unfolding is_unused tidy_field
unused_zero_lem unused x is tidied = eqb-true x 0 tidied
unused_zero_lem (most n) x is tidied = absurd (not_both false is refl)
unused_zero_lem lock_number x is tidied = absurd (not_both false is refl)

-- a field stands in the line, or it is zero
field_back : (n k : ℕ) (fields : List ℕ) (u : Use) → (ltb k n || is_unused u) ≡ true
    → tidy_field u (get_or fields k 0) ≡ true → get_or (take n fields) k 0 ≡ get_or fields k 0
field_back n k fields u used tidied =
    elim (dec_lt k n) [
      | yes lt ↦ get_or-take n fields k 0 lt
      | no ge ↦
          let none = sym (or_second (ltb k n) (is_unused u) (le-ltb k n (omega arith))) ∙ used in
          get_or-eq_default (take n fields) 0 (omega (arith, length-take n fields))
          ∙ sym (unused_zero_lem u (get_or fields k 0) none tidied)
    ]

pub instruction_with_back : (i : Instruction) → i.operation < 12 → tidy_instruction i ≡ true
    → instruction_with i.operation (take (used_of i.operation) (i.a ∷ i.b ∷ i.c ∷ [])) ≡ i
unfolding instruction_with tidy_instruction used_first
instruction_with_back i below tidied =
    let n = used_of i.operation in
    let u = uses_of i.operation in
    let numbers = i.a ∷ i.b ∷ i.c ∷ [] in
    let used =
    and_both ((ltb 0 n || is_unused u.a) && (ltb 1 n || is_unused u.b)) _ (used_first_lem i.operation below) in
    let first = and_both (ltb 0 n || is_unused u.a) (ltb 1 n || is_unused u.b) used.0 in
    let clean = and_both (tidy_field u.a i.a && tidy_field u.b i.b) (tidy_field u.c i.c) tidied in
    let front = and_both (tidy_field u.a i.a) (tidy_field u.b i.b) clean.0 in
    let is_a : get_or (take n numbers) 0 0 ≡ i.a = field_back n 0 numbers u.a first.0 front.0 in
    let is_b : get_or (take n numbers) 1 0 ≡ i.b = field_back n 1 numbers u.b first.1 front.1 in
    let isC : get_or (take n numbers) 2 0 ≡ i.c = field_back n 2 numbers u.c used.1 clean.1 in
    λ j. record { operation = i.operation; a = is_a j; b = is_b j; c = isC j }

-- ---- the numbers of a line

-- bytes fit fields that are bytes
pub bytes_fit : (limits numbers : List ℕ) → all (λ limit. eqb limit byte_field) limits ≡ true
    → length numbers ≡ length limits → Every (λ (x : ℕ). x < 256) numbers → fits limits numbers ≡ true
unfolding fits all
bytes_fit [] [] bytes long small = refl
bytes_fit [] (x ∷ numbers) bytes long small = absurd (omega (arith, long))
bytes_fit (limit ∷ limits) [] bytes long small = absurd (omega (arith, long))
bytes_fit (limit ∷ limits) (x ∷ numbers) bytes long small =
    let both = and_both (eqb limit byte_field) (all (λ l. eqb l byte_field) limits) bytes in
    and_holds (ltb x limit) (fits limits numbers)
    (lt-ltb x limit (omega (arith, small.0, eqb-true limit byte_field both.0)))
    (bytes_fit limits numbers both.1 (omega (arith, long)) small.1)

pub instruction_fits : (i : Instruction) → ByteFields i
    → fits (row_of (InstructionLine i.operation)).fields (take (used_of i.operation) (i.a ∷ i.b ∷ i.c ∷ []))
    ≡ true
unfolding used_of
instruction_fits i small =
    let numbers = i.a ∷ i.b ∷ i.c ∷ [] in
    bytes_fit (row_of (InstructionLine i.operation)).fields (take (used_of i.operation) numbers)
    (used_bytes i.operation)
    (length-take-le (used_of i.operation) numbers (used_few i.operation))
    (every_take (λ (x : ℕ). x < 256) (used_of i.operation) numbers (small.0, (small.1, (small.2, tt))))

-- at most three numbers are given back by the first three fields
three_taken : (numbers : List ℕ) → length numbers ≤ 3
    → take (length numbers) (get_or numbers 0 0 ∷ get_or numbers 1 0 ∷ get_or numbers 2 0 ∷ []) ≡ numbers
three_taken [] few = refl
three_taken (x ∷ []) few = refl
three_taken (x ∷ y ∷ []) few = refl
three_taken (x ∷ y ∷ z ∷ []) few = refl
three_taken (x ∷ y ∷ z ∷ w ∷ numbers) few = absurd (omega (arith, few))

pub line_of_instruction : (operation : ℕ) (numbers : List ℕ)
    → fits (row_of (InstructionLine operation)).fields numbers ≡ true
    → instruction_line (instruction_with operation numbers) ≡ line_with (InstructionLine operation) numbers
unfolding instruction_line instruction_with used_of
line_of_instruction operation numbers fit =
    let long = fits_length (row_of (InstructionLine operation)).fields numbers fit in
    ap (line_with (InstructionLine operation))
    (ap (λ (n : ℕ). take n (get_or numbers 0 0 ∷ get_or numbers 1 0 ∷ get_or numbers 2 0 ∷ [])) (sym long)
    ∙ three_taken numbers (omega (arith, long, used_few operation)))
