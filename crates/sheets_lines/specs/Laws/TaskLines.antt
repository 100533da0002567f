-- Laws of the tasks' lines: one line as it is written, and all of them for an accepted table.
-- Assumes nothing.
use Rattle.std.specs.Prelude.{◌≡◌, ℕ, ◌<◌, List, [], ◌∷◌, length, get_or}
use Rattle.std.proofs.Common.{sym, ap, subst, ◌∙◌, arith}
use Rattle.notation.specs.Laws.ElementLaws.{each_same}
use Rattle.notation.specs.Laws.ListLaws.{each_map}
use Rattle.notation.specs.Laws.PaddedLaws.{padded_at}
use Rattle.notation.specs.Lists.{up_to, each, padded}
use Rattle.notation.specs.Texts.{Text, decimal, line}
use Rattle.taskfile.specs.Code.JudgingParts.{Shaped}
use Rattle.taskfile.specs.Judgement.{numbered, task_numbers}
use Rattle.taskfile.proofs.Laws.JudgingLaws.{tasks_length}
use Rattle.taskfile.specs.Tables.{tasks_of, task_of}
use Rattle.taskfile.specs.declared.Table.{Table}
use Rattle.taskfile.specs.declared.TaskEntry.{TaskEntry}
use Rattle.timing.specs.Accepted.{Accepted}
use Rattle.timing.specs.Code.AcceptParts.{AcceptedParts}
use Rattle.timing.specs.Code.ResponseParts.{Timeable}
use Rattle.timing.specs.Jobs.{jobs_within}
use Rattle.timing.proofs.Laws.TimeableLaws.{task_read}
use Rattle.timing.specs.declared.AcceptedFile.{AcceptedFile}
use Rattle.sheets.specs.Sheets.{task_line}
use Rattle.sheets.specs.SheetWords.{task_word, response_word, jobs_word}
use Rattle.notation_buffers.specs.declared.pages.Page.{Page}
use Rattle.notation_buffers.specs.Code.Pages.{Puts}
use Rattle.sheets_lines.specs.Code.SheetParts.{task_text}

-- ---- one line

-- a line with a task's response time and its number of jobs
abbrev pub line_with : ℕ → ℕ → ℕ → Text
line_with i response jobs =
    line task_word (decimal i ∷ response_word ∷ decimal response ∷ jobs_word ∷ decimal jobs ∷ [])

-- the jobs of the entry that stands in the table's array are those of the task
pub task_put : {t : Table} → Shaped t → (responses : List ℕ) (i : ℕ) (d : TaskEntry) → i < t.tasks → {jobs : ℕ}
    → jobs ≡ jobs_within t.window (get_or t.entries i d) → {before after : Page}
    → Puts before (line_with i (get_or responses i 0) jobs) after → Puts before (task_text t responses i) after
unfolding task_text
task_put {t} shaped responses i d lt is {before} {after} puts =
    let jobs_are = is ∙ ap (jobs_within t.window) (task_read shaped i d lt) in
    subst (λ (k : ℕ). Puts before (line_with i (get_or responses i 0) k) after) jobs_are puts

-- ---- all lines

line_held : (a : Accepted) (i : ℕ) → i < 8 → task_text a.table (padded 8 0 a.responses) i ≡ task_line a (numbered i)
unfolding task_text task_line
line_held a i lt =
    let jobs = jobs_within a.table.window (task_of a.table (numbered i)) in
    ap (λ (r : ℕ). line_with i r jobs) (padded_at 8 0 a.responses i lt)

-- the lines of a table's parts are those of the accepted table
pub task_lines_held : {x : AcceptedFile} {a : Accepted} → AcceptedParts x a → Timeable a.table
    → each (up_to x.table.tasks) (task_text x.table x.responses) ≡ each (task_numbers a.table) (task_line a)
unfolding task_numbers
task_lines_held {x} {a} parts timeable =
    let t = a.table in
    let shaped = timeable.shaped in
    ap (λ (u : Table). each (up_to u.tasks) (task_text u x.responses)) parts.table
    ∙ ap (λ (rs : List ℕ). each (up_to t.tasks) (task_text t rs)) parts.responses
    ∙ each_same t.tasks (task_text t (padded 8 0 a.responses)) (λ k. task_line a (numbered k))
    (λ k lt. line_held a k (omega (arith, shaped.tasks_within)))
    ∙ ap (λ (n : ℕ). each (up_to n) (λ k. task_line a (numbered k))) (sym (tasks_length t shaped))
    ∙ sym (each_map numbered (up_to (length (tasks_of t))) (task_line a))
