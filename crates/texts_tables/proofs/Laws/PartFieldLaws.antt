-- Laws of a line's numbers where they go into a table: each is below its field's limit, also where zeros fill the
-- numbers up to an array of eight, and the part that they add is then the same.
-- Assumes nothing.
use Rattle.std.specs.Prelude.{◌≡◌, refl, ℕ, zero, suc, ◌+◌, ◌-◌, ◌≤◌, ◌<◌, Bool, true, ◌&&◌, List, [], ◌∷◌, ◌++◌, ltb, length, get_or, take, replicate}
use Rattle.std.proofs.Common.{sym, ap, subst, ◌∙◌, not-suc-le-zero, le_of_suc-le-suc, arith, lit<, length-append, take-take, get_or-take}
use Rattle.std.proofs.lemmas.Bool.{false≢true}
use Rattle.std.proofs.Math.Seq.{take-append-add}
use Rattle.notation.specs.Laws.ElementLaws.{same_equal}
use Rattle.notation.specs.Laws.PaddedLaws.{padded_at}
use Rattle.notation.specs.Laws.TabulateLaws.{same_values}
use Rattle.notation.specs.Laws.TestLaws.{and_both, and_holds}
use Rattle.notation.specs.Lists.{padded, bytes_at, all, same}
use Rattle.taskfile.specs.declared.Table.{Table}
use Rattle.taskfile.specs.Chains.{most_instructions}
use Rattle.taskfile.specs.Tables.{end_instruction}
use Rattle.texts.specs.declared.Form.{Form}
use Rattle.texts.specs.declared.Form.TheVariants.{WindowLine, StartLine, TaskLine, InstructionLine, LockLine}
use Rattle.texts.specs.Code.AddedLines.{add_part, with_window, with_store, add_task, add_instruction, add_lock}
use Rattle.texts.specs.Grammar.{Row, row_of, operation_rows, fits, byte_field}
use Rattle.texts.proofs.Laws.FormLaws.{operation_tested}
use Rattle.texts.proofs.Laws.LineReadLaws.{fits_length}
use Rattle.texts.proofs.Laws.SpelledFits.{fits_at}
use Rattle.texts.specs.TextTables.{instruction_with, task_with, lock_with}
use Rattle.texts_tables.specs.Code.PartFields.{part_fields, PartFits}

-- ---- each number fits its field

pub field_holds : (limits numbers : List ℕ) → fits limits (take (length limits) numbers) ≡ true → (k : ℕ)
    → k < length limits → get_or numbers k 0 < get_or limits k 0
field_holds limits numbers fit k below =
    subst (λ (x : ℕ). x < get_or limits k 0) (get_or-take (length limits) numbers k 0 below)
    (fits_at limits (take (length limits) numbers) k fit below)

-- ---- zeros after the numbers

-- more fields, with numbers that fit them
fields_joined : (limits more numbers others : List ℕ) → fits limits numbers ≡ true → fits more others ≡ true
    → fits (limits ++ more) (numbers ++ others) ≡ true
unfolding fits
fields_joined [] more [] others fit rest = rest
fields_joined [] more (x ∷ numbers) others fit rest = absurd (false≢true fit)
fields_joined (limit ∷ limits) more [] others fit rest = absurd (false≢true fit)
fields_joined (limit ∷ limits) more (x ∷ numbers) others fit rest =
    let both = and_both (ltb x limit) _ fit in
    and_holds (ltb x limit) _ both.0 (fields_joined limits more numbers others both.1 rest)

zeros_front : (m n : ℕ) → m ≤ n → take {A = ℕ} m (replicate n 0) ≡ replicate m 0
zeros_front zero n few = refl
zeros_front (suc m) zero few = absurd (not-suc-le-zero few)
zeros_front (suc m) (suc n) few = ap (λ (l : List ℕ). 0 ∷ l) (zeros_front m n (le_of_suc-le-suc few))

-- the front of an array of eight that holds the numbers
padded_front : (n : ℕ) (numbers : List ℕ) → length numbers + n ≤ 8
    → take (length numbers + n) (padded 8 0 numbers) ≡ numbers ++ replicate n 0
unfolding padded
padded_front n numbers few =
    take-take (length numbers + n) 8 (numbers ++ replicate 8 0) few
    ∙ take-append-add numbers (replicate 8 0) n
    ∙ ap (λ (l : List ℕ). numbers ++ l) (zeros_front n 8 (omega arith))

-- numbers that fit their fields fit with zeros after them, where zero fits the fields that follow
padded_holds : (limits more numbers : List ℕ) → fits limits numbers ≡ true
    → fits more (replicate (length more) 0) ≡ true → length (limits ++ more) ≤ 8
    → fits (limits ++ more) (take (length (limits ++ more)) (padded 8 0 numbers)) ≡ true
padded_holds limits more numbers fit rest few =
    let long : length (limits ++ more) ≡ length numbers + length more =
    length-append limits more ∙ ap (λ (n : ℕ). n + length more) (sym (fits_length limits numbers fit)) in
    let front : take (length (limits ++ more)) (padded 8 0 numbers) ≡ numbers ++ replicate (length more) 0 =
    ap (λ (n : ℕ). take n (padded 8 0 numbers)) long ∙ padded_front (length more) numbers (omega arith) in
    subst (λ (l : List ℕ). fits (limits ++ more) l ≡ true) (sym front)
    (fields_joined limits more numbers (replicate (length more) 0) fit rest)

-- the fields of an instruction that an operation does not use
unused_fields : Row → List ℕ
unused_fields r = replicate (3 - length r.fields) byte_field

-- with those it has three bytes, and zero is a byte: computed for each row
three_bytes : Row → Bool
three_bytes r =
    same (r.fields ++ unused_fields r) (replicate 3 byte_field)
    && fits (unused_fields r) (replicate (length (unused_fields r)) 0)

operation_three : (operation : ℕ) → three_bytes (row_of (InstructionLine operation)) ≡ true
unfolding three_bytes unused_fields operation_rows same fits all
operation_three operation = operation_tested three_bytes refl operation

-- the numbers of a line fit where they go, as an array of eight
pub part_fields_fit : (form : Form) (numbers : List ℕ) → fits (row_of form).fields numbers ≡ true
    → PartFits form (padded 8 0 numbers)
unfolding part_fields row_of fits three_bytes
part_fields_fit WindowLine numbers fit = padded_holds (row_of WindowLine).fields [] numbers fit refl (omega arith)
part_fields_fit StartLine numbers fit = padded_holds (row_of StartLine).fields [] numbers fit refl (omega arith)
part_fields_fit TaskLine numbers fit = padded_holds (row_of TaskLine).fields [] numbers fit refl (omega arith)
part_fields_fit (InstructionLine operation) numbers fit =
    let r = row_of (InstructionLine operation) in
    let whole = r.fields ++ unused_fields r in
    let computed = and_both (same whole (replicate 3 byte_field)) _ (operation_three operation) in
    let three = same_equal whole (replicate 3 byte_field) computed.0 in
    subst (λ (l : List ℕ). fits l (take (length l) (padded 8 0 numbers)) ≡ true) three
    (padded_holds r.fields (unused_fields r) numbers fit computed.1 (omega (arith, ap length three)))
part_fields_fit LockLine numbers fit = padded_holds (row_of LockLine).fields [] numbers fit refl (omega arith)

-- ---- the part that they add

bytes_padded : (numbers : List ℕ) → bytes_at (padded 8 0 numbers) 0 8 ≡ bytes_at numbers 0 8
unfolding bytes_at
bytes_padded numbers =
    same_values (λ k. get_or (padded 8 0 numbers) (0 + k) 0) (λ k. get_or numbers (0 + k) 0) 8
    (λ k below. padded_at 8 0 numbers (0 + k) (omega (arith, below)))

pub part_padded : (t : Table) (form : Form) (numbers : List ℕ)
    → add_part t form (padded 8 0 numbers) ≡ add_part t form numbers
unfolding add_part instruction_with task_with lock_with
part_padded t form numbers = go form
  where
    at : (k : ℕ) → k < 8 → get_or (padded 8 0 numbers) k 0 ≡ get_or numbers k 0
    at k below = padded_at 8 0 numbers k below

    first : get_or (padded 8 0 numbers) 0 0 ≡ get_or numbers 0 0
    first = at 0 (lit< tt)

    second : get_or (padded 8 0 numbers) 1 0 ≡ get_or numbers 1 0
    second = at 1 (lit< tt)

    third : get_or (padded 8 0 numbers) 2 0 ≡ get_or numbers 2 0
    third = at 2 (lit< tt)

    go : (form : Form) → add_part t form (padded 8 0 numbers) ≡ add_part t form numbers
    go WindowLine = λ i. with_window t (first i)
    go StartLine = ap (with_store t) (bytes_padded numbers)
    go TaskLine =
        λ i. add_task t (record {
          execution = first i;
          period = second i;
          arrival = third i;
          length = 0;
          body = padded most_instructions end_instruction [];
        })
    go (InstructionLine operation) =
        λ i. add_instruction t (record { operation = operation; a = first i; b = second i; c = third i })
    go LockLine = λ i. add_lock t (record { ceiling = first i; holding = second i })
