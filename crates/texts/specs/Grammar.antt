-- The texts of tables. Document 02, E5: "a `window` line, a `start` line with eight values, then each task line
-- followed by its instruction lines by lower-case name (6 `less`, 7 `equal`) and used fields in a, b, c order, then
-- lock lines: `task` C P A, `lock` ceiling H. One space between words, no leading zeros, each line ended by a newline.
-- The grammar sets no counts of task, instruction and lock lines, even none". E7: "The text always writes c, so an old
-- text's `pick` line with two numbers earns 60."
-- Assumes nothing.
use Rattle.std.specs.Prelude.{◌≡◌, ℕ, ◌^◌, Bool, true, false, ◌&&◌, List, [], ◌∷◌, map, length, get_or, replicate, leb, ltb}
use Rattle.notation.specs.Lists.{each}
use Rattle.notation.specs.Ordered.{Every}
use Rattle.notation.specs.Texts.{Text, decimal, line}
use Rattle.sheets.specs.SheetWords.{task_word}
use Rattle.texts.specs.declared.Form.{Form}
use Rattle.texts.specs.declared.Form.TheVariants.{WindowLine, StartLine, TaskLine, InstructionLine, LockLine}
use Rattle.texts.specs.Words.{window_word, start_word, lock_word, end_word, load_word, store_word, set_word, add_word}
use Rattle.texts.specs.Words.{subtract_word, less_word, equal_word, pick_word, acquire_word, release_word, assert_word}

-- ---- rows

-- A field holds numbers below its limit: a byte, or 32 bits.
abbrev pub byte_field : ℕ
byte_field = 256

abbrev pub wide_field : ℕ
wide_field = 2 ^ 32

-- How far a text has come, and so which lines may come next: the window is due; the start values are due; a task or a
-- lock may come; after a task line, an instruction too; after a lock, locks alone.
abbrev pub at_window : ℕ
at_window = 0

abbrev pub at_start : ℕ
at_start = 1

abbrev pub at_tasks : ℕ
at_tasks = 2

abbrev pub in_body : ℕ
in_body = 3

abbrev pub at_locks : ℕ
at_locks = 4

-- A row of the grammar: a line's word and its fields' limits, from which stage to which it may come, and the stage
-- then.
pub record Row : Type 0 where
  pub word : Text
  pub fields : List ℕ
  pub earliest : ℕ
  pub latest : ℕ
  pub stage : ℕ

abbrev pub row : Text → List ℕ → ℕ → ℕ → ℕ → Row
row word fields earliest latest stage =
    record { word = word; fields = fields; earliest = earliest; latest = latest; stage = stage }

-- An instruction's row: its name, and how many of the fields a, b, c it uses, which are the first of them.
abbrev pub operation_row : Text → ℕ → Row
operation_row name used = row name (replicate used byte_field) in_body in_body in_body

-- the operations by number
unfoldable pub operation_rows : List Row
operation_rows =
    operation_row end_word 0
    ∷ operation_row load_word 2
    ∷ operation_row store_word 2
    ∷ operation_row set_word 2
    ∷ operation_row add_word 2
    ∷ operation_row subtract_word 2
    ∷ operation_row less_word 3
    ∷ operation_row equal_word 3
    ∷ operation_row pick_word 3
    ∷ operation_row acquire_word 1
    ∷ operation_row release_word 1
    ∷ operation_row assert_word 1
    ∷ []

unfoldable pub row_of : Form → Row
row_of WindowLine = row window_word (wide_field ∷ []) at_window at_window at_start
row_of StartLine = row start_word (replicate 8 byte_field) at_start at_start at_tasks
row_of TaskLine = row task_word (wide_field ∷ wide_field ∷ wide_field ∷ []) at_tasks in_body in_body
row_of (InstructionLine operation) = get_or operation_rows operation (operation_row end_word 0)
row_of LockLine = row lock_word (byte_field ∷ wide_field ∷ []) at_tasks at_locks at_locks

-- ---- lines

-- a line: its form, and its numbers
pub record Line : Type 0 where
  pub form : Form
  pub numbers : List ℕ

abbrev pub line_with : Form → List ℕ → Line
line_with form numbers = record { form = form; numbers = numbers }

-- "One space between words, no leading zeros, each line ended by a newline."
unfoldable pub line_text : Line → Text
line_text l = line (row_of l.form).word (map decimal l.numbers)

-- an instruction's operation has a row
unfoldable pub known : Form → Bool
known WindowLine = true
known StartLine = true
known TaskLine = true
known (InstructionLine operation) = ltb operation (length operation_rows)
known LockLine = true

-- a number for each field, below its limit
unfoldable pub fits : List ℕ → List ℕ → Bool
fits [] [] = true
fits [] (x ∷ numbers) = false
fits (limit ∷ limits) [] = false
fits (limit ∷ limits) (x ∷ numbers) = ltb x limit && fits limits numbers

abbrev pub IsLine : Line → Type 0
IsLine l = (known l.form ≡ true) × (fits (row_of l.form).fields l.numbers ≡ true)

-- ---- texts

-- may a line of this row come at this stage?
unfoldable pub may_come : ℕ → Row → Bool
may_come stage r = leb r.earliest stage && leb stage r.latest

-- the lines from a stage on: each may come where it stands, and the window and the start values have come in the end
unfoldable pub in_order : ℕ → List Line → Bool
in_order stage [] = leb at_tasks stage
in_order stage (l ∷ lines) = may_come stage (row_of l.form) && in_order (row_of l.form).stage lines

-- the lines one after the other
unfoldable pub joined : List Line → Text
joined lines = each lines line_text

-- these are the lines of a text
pub record Spells (lines : List Line) (text : Text) : Type 0 where
  pub good : Every IsLine lines
  pub placed : in_order at_window lines ≡ true
  pub bytes : joined lines ≡ text

-- a text of the grammar: there are lines that it consists of
abbrev pub IsText : Text → Type 0
IsText text = (lines : List Line) × Spells lines text
