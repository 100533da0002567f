-- Laws of a table's lines as they are written one after the other: a body, the tasks, the locks, the whole text.
-- Assumes nothing.
use Rattle.std.specs.Prelude.{◌≡◌, refl, ℕ, min, ◌+◌, ◌<◌, List, [], ◌∷◌, ◌++◌, map, length, get_or, take}
use Rattle.std.proofs.Common.{sym, ap, ◌∙◌, arith, append_assoc, length-take, get_or-take}
use Rattle.notation.specs.Laws.ListLaws.{each_append, each_map}
use Rattle.notation.specs.Lists.{each}
use Rattle.notation.specs.Texts.{Text}
use Rattle.taskfile.specs.declared.Table.{Table}
use Rattle.taskfile.specs.declared.TaskEntry.{TaskEntry}
use Rattle.taskfile.specs.Tables.{tasks_of, body_of}
use Rattle.writer.specs.Claims.{lock_array}
use Rattle.texts.specs.declared.Form.TheVariants.{WindowLine, StartLine, TaskLine}
use Rattle.texts.specs.Grammar.{Line, line_with, line_text, joined}
use Rattle.texts.specs.TextTables.{instruction_line, task_lines, lock_line, table_lines, text_of}
use Rattle.notation_buffers.specs.declared.pages.Page.{Page}
use Rattle.notation_buffers.specs.Code.Pages.{Puts}
use Rattle.notation_buffers.specs.Laws.PageLaws.{puts_same, puts_more, ListedTo, listed_more}

-- ---- the lines of a list

-- the lines of lists one by one are the lines of the joined list
pub lines_each : {A : Type 0} (lines : A → List Line) (xs : List A)
    → joined (each xs lines) ≡ each xs (λ x. joined (lines x))
unfolding each joined
lines_each lines [] = refl
lines_each lines (x ∷ xs) =
    each_append line_text (lines x) (each xs lines)
    ∙ ap (λ (l : Text). each (lines x) line_text ++ l) (lines_each lines xs)

module _ {A : Type 0} {before after : Page} (xs : List A) where
  -- a line for each element
  pub lines_put : (line : A → Line) → Puts before (each xs (λ x. line_text (line x))) after
      → Puts before (joined (map line xs)) after
  unfolding joined
  lines_put line puts = puts_same (sym (each_map line xs line_text)) puts

  -- lines for each element
  pub lines_listed : (lines : A → List Line) → Puts before (each xs (λ x. joined (lines x))) after
      → Puts before (joined (each xs lines)) after
  lines_listed lines puts = puts_same (sym (lines_each lines xs)) puts

-- ---- the parts that an array holds: as many as the count says, and never more than the array has

pub held_counted : {A : Type 0} (count : ℕ) (array : List A) {most n : ℕ} → length array ≡ most → n ≡ min count most
    → n ≡ length (take count array)
held_counted count array full is = omega (arith, length-take count array, is)

-- the lines of one element more, as it stands in the array
pub held_more : {A : Type 0} {part : A → Text} (count : ℕ) (array : List A) {k : ℕ} (d : A) {x : A}
    {before mid after : Page} → k < length (take count array) → x ≡ get_or array k d
    → ListedTo part (take count array) k before mid → Puts mid (part x) after
    → ListedTo part (take count array) (k + 1) before after
held_more {part = part} count array {k} d inside is first second =
    let same = is ∙ sym (get_or-take count array k d (omega (arith, length-take count array))) in
    listed_more d first inside (puts_same (ap part same) second)

-- ---- a task's lines, and a whole text

pub task_lines_put : (e : TaskEntry) {before mid after : Page}
    → Puts before (line_text (line_with TaskLine (e.execution ∷ e.period ∷ e.arrival ∷ []))) mid
    → Puts mid (joined (map instruction_line (body_of e))) after → Puts before (joined (task_lines e)) after
unfolding task_lines joined each
task_lines_put e first second = puts_more first second

pub text_put : (t : Table) {before one two three after : Page}
    → Puts before (line_text (line_with WindowLine (t.window ∷ []))) one
    → Puts one (line_text (line_with StartLine t.store)) two
    → Puts two (joined (each (tasks_of t) task_lines)) three
    → Puts three (joined (map lock_line (take t.locks (lock_array t)))) after → Puts before (text_of t) after
unfolding text_of table_lines joined each
text_put t window start tasks locks =
    let first = line_text (line_with WindowLine (t.window ∷ [])) in
    let second = line_text (line_with StartLine t.store) in
    let bodies = each (tasks_of t) task_lines in
    let last = map lock_line (take t.locks (lock_array t)) in
    puts_same
    (append_assoc (first ++ second) (joined bodies) (joined last)
    ∙ ap (λ (l : Text). (first ++ second) ++ l) (sym (each_append line_text bodies last))
    ∙ append_assoc first second (each (bodies ++ last) line_text))
    (puts_more (puts_more (puts_more window start) tasks) locks)
