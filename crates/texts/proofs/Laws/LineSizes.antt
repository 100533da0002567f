-- How long the lines of an accepted table's text are: an instruction's, a body's, a task's, a lock's, the window's and
-- the start values'.
-- Assumes nothing.
use Rattle.std.specs.Prelude.{◌≡◌, refl, ℕ, zero, suc, ◌+◌, ◌*◌, ◌^◌, ◌≤◌, ◌<◌, Bool, true, false, List, [], ◌∷◌, ◌++◌, map, length, get_or, take, leb, ltb}
use Rattle.std.proofs.Common.{ap, ◌∙◌, arith, length-append, length-take, leb-true, ltb-true, eqb-true}
use Rattle.notation.specs.Laws.ListLaws.{each_append}
use Rattle.std.specs.Prelude.{if◌then◌else◌}
use Rattle.notation.specs.Lists.{from, up_to, all, each, sum}
use Rattle.notation.specs.Ordered.{Every}
use Rattle.notation.specs.Laws.DecimalLaws.{decimal_few}
use Rattle.notation.specs.Texts.{Text, decimal, spaced, line}
use Rattle.taskfile.specs.declared.Instruction.{Instruction}
use Rattle.taskfile.specs.declared.TaskEntry.{TaskEntry}
use Rattle.taskfile.specs.Judgement.{is_end}
use Rattle.taskfile.proofs.Laws.RecordLaws.{instruction_ranged}
use Rattle.taskfile.specs.Records.{Use, unused, most, lock_number, operation_uses, uses_of, field_in_range}
use Rattle.taskfile.specs.Records.{instruction_in_range}
use Rattle.taskfile.specs.Tables.{body_of, end_instruction}
use Rattle.sheets.specs.SheetWords.{task_word}
use Rattle.writer.specs.declared.Lock.{Lock}
use Rattle.writer.specs.Values.{Bytes, FitsEntry, ByteFields}
use Rattle.texts.specs.declared.Form.TheVariants.{WindowLine, StartLine, TaskLine, InstructionLine}
use Rattle.texts.specs.Grammar.{Line, line_with, line_text, row_of, operation_rows, joined}
use Rattle.texts.proofs.Laws.EveryLaws.{tested_below}
use Rattle.texts.specs.TextTables.{instruction_line, task_lines, lock_line}
use Rattle.texts.specs.Words.{window_word, start_word, lock_word, end_word, load_word, store_word, set_word, add_word}
use Rattle.texts.specs.Words.{subtract_word, less_word, equal_word, pick_word, acquire_word, release_word, assert_word}

-- ---- any line

-- the bytes of numbers in a line, each with the space before it
unfoldable width_of : List ℕ → ℕ
width_of numbers = sum (map (λ n. suc (length (decimal n))) numbers)

spaced_long : (word : Text) (numbers : List ℕ)
    → length (spaced word (map decimal numbers)) ≡ length word + width_of numbers
unfolding spaced width_of sum
spaced_long word [] = omega arith
spaced_long word (n ∷ numbers) =
    omega (arith, length-append word (32 ∷ spaced (decimal n) (map decimal numbers)), spaced_long (decimal n) numbers)

line_long : (l : Line) → length (line_text l) ≡ length (row_of l.form).word + width_of l.numbers + 1
unfolding line_text line
line_long l =
    let word = (row_of l.form).word in
    omega (arith, length-append (spaced word (map decimal l.numbers)) (10 ∷ []), spaced_long word l.numbers)

-- ---- the window and the start values

pub window_line_most : (window : ℕ) → window < 2 ^ 32 → length (line_text (line_with WindowLine (window ∷ []))) ≤ 18
unfolding row_of window_word width_of sum
window_line_most window wide =
    omega (arith, line_long (line_with WindowLine (window ∷ [])), decimal_few 10 window (omega arith) (omega arith))

bytes_width : (bytes : List ℕ) → Bytes bytes → width_of bytes ≤ 4 * length bytes
unfolding width_of sum
bytes_width [] small = omega arith
bytes_width (b ∷ bytes) small =
    omega (arith, bytes_width bytes small.1, decimal_few 3 b (omega arith) (omega (arith, small.0)))

pub start_line_most : (store : List ℕ) → Bytes store → length store ≡ 8
    → length (line_text (line_with StartLine store)) ≤ 38
unfolding row_of start_word
start_line_most store small full = omega (arith, line_long (line_with StartLine store), bytes_width store small)

-- ---- an instruction's line

-- the most bytes of a field with the space before it, by its use
unfoldable field_most : Use → ℕ
field_most unused = 4
field_most (most n) = if ltb n 10 then 2 else if ltb n 100 then 3 else 4
field_most lock_number = 4

field_most_lem : (u : Use) (x : ℕ) → x < 256 → field_in_range u x ≡ true → suc (length (decimal x)) ≤ field_most u
unfolding field_most field_in_range
field_most_lem unused x byte inside = omega (arith, decimal_few 3 x (omega arith) (omega arith))
field_most_lem (most n) x byte inside = go (ltb n 10) (ltb n 100) (ltb-true n 10) (ltb-true n 100)
  where
    go : (one two : Bool) → (one ≡ true → n < 10) → (two ≡ true → n < 100)
        → suc (length (decimal x)) ≤ (if one then 2 else if two then 3 else 4)
    go true two below lower =
        omega (arith, decimal_few 1 x (omega arith) (omega (arith, below refl, leb-true x n inside)))
    go false true below lower =
        omega (arith, decimal_few 2 x (omega arith) (omega (arith, lower refl, leb-true x n inside)))
    go false false below lower = omega (arith, decimal_few 3 x (omega arith) (omega arith))
field_most_lem lock_number x byte inside = omega (arith, decimal_few 3 x (omega arith) (omega arith))

-- each number takes at most so many bytes
abbrev AllMost : List ℕ → List ℕ → Type 0
AllMost [] [] = Unit {0}
AllMost [] (w ∷ widths) = ⊥
AllMost (x ∷ numbers) [] = ⊥
AllMost (x ∷ numbers) (w ∷ widths) = (suc (length (decimal x)) ≤ w) × AllMost numbers widths

first_width : (k : ℕ) (numbers widths : List ℕ) → AllMost numbers widths
    → width_of (take k numbers) ≤ sum (take k widths)
unfolding width_of sum
first_width zero numbers widths each = omega arith
first_width (suc k) [] [] each = omega arith
first_width (suc k) [] (w ∷ widths) each = absurd each
first_width (suc k) (x ∷ numbers) [] each = absurd each
first_width (suc k) (x ∷ numbers) (w ∷ widths) each = omega (arith, each.0, first_width k numbers widths each.1)

-- the most bytes of an instruction's line, by its operation
unfoldable operation_most : ℕ → ℕ
operation_most o =
    let row = row_of (InstructionLine o) in
    let u = uses_of o in
    length row.word
    + sum (take (length row.fields) (field_most u.a ∷ field_most u.b ∷ field_most u.c ∷ []))
    + 1

operations_short : all (λ o. leb (operation_most o) 13) (up_to 12) ≡ true
unfolding all up_to from operation_most row_of operation_rows uses_of operation_uses field_most sum
    end_word load_word store_word set_word add_word subtract_word less_word equal_word pick_word acquire_word release_word
    assert_word
operations_short = refl

operation_most_lem : (o : ℕ) → o < 12 → operation_most o ≤ 13
operation_most_lem o known =
    leb-true (operation_most o) 13 (tested_below (λ k. leb (operation_most k) 13) 12 o operations_short known)

-- the fields of an instruction are bytes
pub instruction_line_most : (i : Instruction) → ByteFields i → instruction_in_range i ≡ true
    → length (line_text (instruction_line i)) ≤ 13
unfolding instruction_line operation_most
instruction_line_most i bytes inside =
    let u = uses_of i.operation in
    let ranged = instruction_ranged i inside in
    let used = length (row_of (InstructionLine i.operation)).fields in
    let most = field_most u.a ∷ field_most u.b ∷ field_most u.c ∷ [] in
    let widths = first_width used (i.a ∷ i.b ∷ i.c ∷ []) most (
      field_most_lem u.a i.a bytes.0 ranged.in_a,
      (field_most_lem u.b i.b bytes.1 ranged.in_b, (field_most_lem u.c i.c bytes.2 ranged.in_c, tt)),
    ) in
    omega (
      arith,
      line_long (instruction_line i),
      widths,
      operation_most_lem i.operation ranged.known,
    )

-- "end"
end_line_long : (i : Instruction) → is_end i ≡ true → length (line_text (instruction_line i)) ≡ 4
unfolding is_end instruction_line line_text line spaced row_of operation_rows end_word
end_line_long i ends =
    ap
    (λ (o : ℕ). length (line_text (line_with (InstructionLine o)
    (take (length (row_of (InstructionLine o)).fields) (i.a ∷ i.b ∷ i.c ∷ []))))) (eqb-true i.operation 0 ends)

-- ---- a body, a task, a lock

-- the lines of lists one by one, joined
pub joined_append : (ls ms : List Line) → length (joined (ls ++ ms)) ≡ length (joined ls) + length (joined ms)
unfolding joined
joined_append ls ms = ap length (each_append line_text ls ms) ∙ length-append (each ls line_text) (each ms line_text)

-- the instruction's line is short
abbrev pub ShortLine : Instruction → Type 0
ShortLine i = length (line_text (instruction_line i)) ≤ 13

-- the last instruction is End
abbrev pub EndsIn : List Instruction → Type 0
EndsIn body = (p : ℕ) → suc p ≡ length body → is_end (get_or body p end_instruction) ≡ true

body_lines_most : (body : List Instruction) → Every ShortLine body → 1 ≤ length body → EndsIn body
    → length (joined (map instruction_line body)) + 9 ≤ 13 * length body
unfolding joined each
body_lines_most [] short some last = absurd (omega arith)
body_lines_most (i ∷ []) short some last =
    omega (arith, length-append (line_text (instruction_line i)) [], end_line_long i (last 0 refl))
body_lines_most (i ∷ j ∷ others) short some last =
    omega (
      arith,
      length-append (line_text (instruction_line i)) (joined (map instruction_line (j ∷ others))),
      short.0,
      body_lines_most (j ∷ others) short.1 (omega arith) (λ p e. last (suc p) (ap suc e)),
    )

task_line_most : (e : TaskEntry) → FitsEntry e
    → length (line_text (line_with TaskLine (e.execution ∷ e.period ∷ e.arrival ∷ [])))
    ≤ 28 + length (decimal e.execution)
unfolding row_of task_word width_of sum
task_line_most e fit =
    omega (
      arith,
      line_long (line_with TaskLine (e.execution ∷ e.period ∷ e.arrival ∷ [])),
      decimal_few 10 e.period (omega arith) (omega (arith, fit.period)),
      decimal_few 10 e.arrival (omega arith) (omega (arith, fit.arrival)),
    )

-- the task's line and those of at most 16 instructions
pub task_lines_most : (e : TaskEntry) → FitsEntry e → Every ShortLine (body_of e) → 1 ≤ length (body_of e)
    → EndsIn (body_of e) → length (joined (task_lines e)) ≤ 227 + length (decimal e.execution)
unfolding task_lines joined each body_of
task_lines_most e fit short some last =
    let first = line_with TaskLine (e.execution ∷ e.period ∷ e.arrival ∷ []) in
    omega (
      arith,
      length-append (line_text first) (joined (map instruction_line (body_of e))),
      task_line_most e fit,
      body_lines_most (body_of e) short some last,
      length-take e.length e.body,
      fit.body,
    )

pub lock_line_most : (lock : Lock) → lock.ceiling ≤ 7 → lock.holding < 2 ^ 32 → length (line_text (lock_line lock)) ≤ 18
unfolding lock_line row_of lock_word width_of sum
lock_line_most lock low wide =
    omega (
      arith,
      line_long (lock_line lock),
      decimal_few 1 lock.ceiling (omega arith) (omega arith),
      decimal_few 10 lock.holding (omega arith) (omega arith),
    )
