-- Laws over a text and a place in it, of the parts of a sheet that are written there: what the walk found, and the
-- line of a task.
-- Assumes nothing.
use Rattle.std.specs.Prelude.{◌≡◌, ℕ, ◌<◌, List, [], ◌∷◌, get_or}
use Rattle.std.proofs.Common.{sym, ap, subst, ◌∙◌}
use Rattle.notation.specs.Texts.{decimal, line}
use Rattle.taskfile.specs.Code.JudgingParts.{Shaped}
use Rattle.taskfile.specs.declared.Table.{Table}
use Rattle.taskfile.specs.declared.TaskEntry.{TaskEntry}
use Rattle.timing.specs.Accepted.{Accepted}
use Rattle.timing.specs.Jobs.{jobs_within}
use Rattle.timing.proofs.Laws.TimeableLaws.{task_read}
use Rattle.timing.specs.declared.JobList.{JobList}
use Rattle.walk.specs.declared.Verdict.TheVariants.{Fails}
use Rattle.walk.specs.declared.WalkAnswer.{WalkAnswer}
use Rattle.walk_trials.specs.Code.Outcomes.{answer_of}
use Rattle.walk_trials.specs.Code.WalkParts.{WalkOf}
use Rattle.walk_trials.specs.declared.Outcome.{Outcome}
use Rattle.sheets.specs.Sheets.{sheet_allowance, refused_line}
use Rattle.sheets.specs.SheetWords.{verdict_word, holds_word}
use Rattle.sheets_printing.specs.Code.Puts.{PutsText}
use Rattle.sheets_printing.specs.Laws.LineLaws.{puts_same}
use Rattle.sheets_lines.specs.Code.SheetParts.{PartsOf, findings_of, task_text}
use Rattle.sheets_lines.specs.Laws.FindingLaws.{refused_found, holds_found}
use Rattle.sheets_lines.specs.Laws.TaskLines.{line_with}

-- ---- what the walk found

module _ {a : Accepted} {t : Table} {list : JobList} (p : PartsOf a t list) {before path : List ℕ} {r : Outcome}
    (walked : WalkOf t list sheet_allowance before path r) where
  module _ {w : WalkAnswer} (answers : w ≡ answer_of r) where
    -- a number: its line
    pub findings_refused : (w.number ≡ 0 → ⊥) → {text : List ℕ} {at : ℕ} {after : List ℕ} {n : ℕ}
        → PutsText text at (refused_line w.number w.place) after n → PutsText text at (findings_of a) after n
    findings_refused Some-number puts = puts_same (sym (refused_found p walked answers Some-number)) puts

    -- no number and no failure: the verdict that it holds
    pub findings_holds : w.number ≡ 0 → (w.verdict ≡ Fails → ⊥) → {text : List ℕ} {at : ℕ} {after : List ℕ} {n : ℕ}
        → PutsText text at (line verdict_word (holds_word ∷ decimal w.count ∷ [])) after n
        → PutsText text at (findings_of a) after n
    findings_holds clean no-failure puts = puts_same (sym (holds_found p walked answers clean no-failure)) puts

-- ---- a task's line

-- the jobs of the entry that stands in the table's array are those of the task
pub task_put : {t : Table} → Shaped t → (responses : List ℕ) (i : ℕ) (d : TaskEntry) → i < t.tasks → {jobs : ℕ}
    → jobs ≡ jobs_within t.window (get_or t.entries i d) → {mid : List ℕ} {m : ℕ} {after : List ℕ} {n : ℕ}
    → PutsText mid m (line_with i (get_or responses i 0) jobs) after n
    → PutsText mid m (task_text t responses i) after n
unfolding task_text
task_put {t} shaped responses i d lt is {mid} {m} {after} {n} puts =
    let jobs_are = is ∙ ap (jobs_within t.window) (task_read shaped i d lt) in
    subst (λ (k : ℕ). PutsText mid m (line_with i (get_or responses i 0) k) after n) jobs_are puts
