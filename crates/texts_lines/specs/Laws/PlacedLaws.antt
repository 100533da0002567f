-- Laws over a text and a place in it, of the lines of a table that are written there: an instruction's line from its
-- three parts, the lines of a list, a task's lines, the whole text.
-- Assumes nothing.
use Rattle.std.specs.Prelude.{◌≡◌, ℕ, ◌+◌, ◌<◌, List, [], ◌∷◌, ◌++◌, map, length, get_or, take}
use Rattle.std.proofs.Common.{sym, ap, ◌∙◌, arith, append_assoc, length-take, get_or-take}
use Rattle.notation.specs.Laws.ListLaws.{each_append, each_map}
use Rattle.notation.specs.Letters.{newline}
use Rattle.notation.specs.Lists.{each}
use Rattle.notation.specs.Texts.{Text}
use Rattle.notation_buffers.specs.Code.Spaced.{spaced_numbers}
use Rattle.taskfile.specs.declared.Instruction.{Instruction}
use Rattle.taskfile.specs.declared.Table.{Table}
use Rattle.taskfile.specs.declared.TaskEntry.{TaskEntry}
use Rattle.taskfile.specs.Tables.{tasks_of, body_of}
use Rattle.writer.specs.Claims.{lock_array}
use Rattle.texts.specs.declared.Form.TheVariants.{WindowLine, StartLine, TaskLine, InstructionLine}
use Rattle.texts.specs.Grammar.{Line, line_with, line_text, row_of, joined}
use Rattle.texts.specs.TextTables.{instruction_line, task_lines, lock_line, table_lines, text_of}
use Rattle.sheets_printing.specs.Code.Puts.{PutsText}
use Rattle.sheets_printing.specs.Laws.LineLaws.{puts_same, puts_more}
use Rattle.sheets_printing.specs.Laws.SpacedLaws.{parts_to, listed_more, numbers_put}
use Rattle.texts_lines.specs.Laws.TextLineLaws.{lines_each}

-- ---- an instruction's line

pub instruction_line_put : (i : Instruction) {used : ℕ} {before : Text} {at : ℕ} {one : Text} {l : ℕ} {two : Text}
    {m : ℕ} {after : Text} {n : ℕ}
    → used ≡ length (row_of (InstructionLine i.operation)).fields
    → PutsText before at (row_of (InstructionLine i.operation)).word one l
    → PutsText one l (spaced_numbers (take used (i.a ∷ i.b ∷ i.c ∷ []))) two m → PutsText two m (newline ∷ []) after n
    → PutsText before at (line_text (instruction_line i)) after n
unfolding line_text instruction_line
instruction_line_put i {used} is name fields end =
    let numbers : List ℕ = i.a ∷ i.b ∷ i.c ∷ [] in
    let row = row_of (InstructionLine i.operation) in
    numbers_put row.word (take (length row.fields) numbers) name
    (puts_same (ap (λ (k : ℕ). spaced_numbers (take k numbers)) is) fields) end

-- ---- the lines of a list

module _ {A : Type 0} {before : Text} {at : ℕ} (xs : List A) {after : Text} {n : ℕ} where
  -- a line for each element
  pub lines_put : (line : A → Line) → PutsText before at (each xs (λ x. line_text (line x))) after n
      → PutsText before at (joined (map line xs)) after n
  unfolding joined
  lines_put line puts = puts_same (sym (each_map line xs line_text)) puts

  -- lines for each element
  pub lines_listed : (lines : A → List Line) → PutsText before at (each xs (λ x. joined (lines x))) after n
      → PutsText before at (joined (each xs lines)) after n
  lines_listed lines puts = puts_same (sym (lines_each lines xs)) puts

-- the lines of one element more, as it stands in the array
pub held_more : {A : Type 0} (part : A → Text) (count : ℕ) (array : List A) (k : ℕ) (d : A) {x : A} {before : Text}
    {at : ℕ} {mid : Text} {m : ℕ} {after : Text} {n : ℕ} → k < length (take count array) → x ≡ get_or array k d
    → PutsText before at (parts_to part (take count array) k) mid m → PutsText mid m (part x) after n
    → PutsText before at (parts_to part (take count array) (k + 1)) after n
held_more part count array k d inside is first second =
    listed_more part (take count array) k d inside
    (is ∙ sym (get_or-take count array k d (omega (arith, length-take count array)))) first second

-- ---- a task's lines, and a whole text

pub task_lines_put : (e : TaskEntry) {before : Text} {at : ℕ} {mid : Text} {m : ℕ} {after : Text} {n : ℕ}
    → PutsText before at (line_text (line_with TaskLine (e.execution ∷ e.period ∷ e.arrival ∷ []))) mid m
    → PutsText mid m (joined (map instruction_line (body_of e))) after n
    → PutsText before at (joined (task_lines e)) after n
unfolding task_lines joined each
task_lines_put e first second = puts_more first second

pub text_put : (t : Table) {before : Text} {at : ℕ} {one : Text} {k : ℕ} {two : Text} {l : ℕ} {three : Text} {m : ℕ}
    {after : Text} {n : ℕ}
    → PutsText before at (line_text (line_with WindowLine (t.window ∷ []))) one k
    → PutsText one k (line_text (line_with StartLine t.store)) two l
    → PutsText two l (joined (each (tasks_of t) task_lines)) three m
    → PutsText three m (joined (map lock_line (take t.locks (lock_array t)))) after n
    → PutsText before at (text_of t) after n
unfolding text_of table_lines joined each
text_put t window start tasks locks =
    let first = line_text (line_with WindowLine (t.window ∷ [])) in
    let second = line_text (line_with StartLine t.store) in
    let bodies = each (tasks_of t) task_lines in
    let last = map lock_line (take t.locks (lock_array t)) in
    puts_same
    (append_assoc (first ++ second) (joined bodies) (joined last)
    ∙ ap (λ (l : Text). (first ++ second) ++ l) (sym (each_append line_text bodies last))
    ∙ append_assoc first second (each (bodies ++ last) line_text))
    (puts_more (puts_more (puts_more window start) tasks) locks)
