-- The parts of a sheet, as its functions write them.
-- Assumes nothing.
use Rattle.std.specs.Prelude.{◌≡◌, ℕ, List, [], ◌∷◌, get_or}
use Rattle.std.proofs.Math.Option.{some}
use Rattle.notation.specs.Checked.{passed}
use Rattle.notation.specs.Lists.{up_to, each}
use Rattle.notation.specs.Texts.{Text, decimal, line}
use Rattle.notation_buffers.specs.declared.pages.Page.{Page}
use Rattle.notation_buffers.specs.Code.Pages.{Puts}
use Rattle.taskfile.specs.Judgement.{numbered}
use Rattle.taskfile.specs.Tables.{task_of}
use Rattle.taskfile.specs.declared.Table.{Table}
use Rattle.timing.specs.Accepted.{Accepted}
use Rattle.timing.specs.Code.IsAccepted.{IsAccepted}
use Rattle.timing.specs.Code.JobParts.{job_list_of}
use Rattle.timing.specs.Jobs.{jobs_within}
use Rattle.timing.specs.declared.JobList.{JobList}
use Rattle.machine.specs.declared.End.{End}
use Rattle.order.specs.Orders.{OrderEnds}
use Rattle.plan.specs.Plans.{legal_run}
use Rattle.matching.specs.Conversions.{plan_of}
use Rattle.walk.specs.WalkEntry.{decided}
use Rattle.walk.specs.Walks.{EndedOrder, walk}
use Rattle.walk.specs.declared.WalkAnswer.{WalkAnswer}
use Rattle.plan_marks.specs.declared.Marks.{Marks}
use Rattle.sheets.specs.Sheets.{sheet_allowance, findings, rounds_lines}
use Rattle.sheets.specs.SheetWords.{task_word, response_word, jobs_word}
use Rattle.sheets_failing.specs.Code.LineParts.{job_line}

-- the line of task i of a table whose response times stand in an array
unfoldable pub task_text : Table → List ℕ → ℕ → Text
task_text t responses i =
    line task_word
    (decimal i
    ∷ response_word
    ∷ decimal (get_or responses i 0)
    ∷ jobs_word
    ∷ decimal (jobs_within t.window (task_of t (numbered i)))
    ∷ [])

-- an accepted table's parts in arrays: the table, and its jobs
pub record PartsOf (a : Accepted) (t : Table) (list : JobList) : Type 0 where
  pub accepted : IsAccepted a
  pub table : t ≡ a.table
  pub listed : list ≡ job_list_of a.jobs

-- they are those of an accepted table
abbrev pub Parts : Table → JobList → Type 0
Parts t list = (a : Accepted) × PartsOf a t list

-- what the walk of an accepted table finds
unfoldable pub findings_of : Accepted → Text
findings_of a = findings a (decided sheet_allowance (walk a))

-- it was written
abbrev pub PutsFindings : Table → JobList → Page → Page → Type 0
PutsFindings t list before after = (a : Accepted) → PartsOf a t list → Puts before (findings_of a) after

-- a walk's answer that shows a failing order of an accepted table
pub record FailingParts (a : Accepted) (t : Table) (list : JobList) (w : WalkAnswer) (order : List ℕ) : Type 0 where
  pub parts : PartsOf a t list
  pub shown : EndedOrder
  pub fails : (walk a).failing ≡ some shown
  pub decides : decided sheet_allowance (walk a) ≡ passed (walk a)
  pub count : w.count ≡ (walk a).count
  pub failed : w.failed ≡ shown.ending.failed
  pub bytes : order ≡ shown.bytes

-- what the walk finds was written, where it is this failing order
abbrev pub PutsFailure : Table → JobList → WalkAnswer → List ℕ → Page → Page → Type 0
PutsFailure t list w order before after =
    (a : Accepted) → FailingParts a t list w order → Puts before (findings_of a) after

-- the marks of the steps of a complete order's plan: they hold each job's rounds
pub record MarksOf (t : Table) (list : JobList) (order : List ℕ) (marks : Marks) : Type 0 where
  pub rounds : (a : Accepted) → PartsOf a t list → {e : End} → OrderEnds a order e
      → rounds_lines a (legal_run a (plan_of a order)) ≡ each (up_to list.count) (job_line marks)
