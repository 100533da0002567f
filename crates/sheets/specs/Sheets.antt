-- The check program's sheet, and what its entry answers and leaves in a lent text. Document 01, "The check program and
-- its sheet": "It reads a file from standard input, uses allowance 1,000,000 and prints. .. First come totals and each
-- task's line; the number after the verdict is the count; `order` gives the bytes, `failed` job numbers ascending, then
-- each job's rounds in that order's plan. With no failure the sheet ends at `verdict holds N`. With 21 it ends at
-- `refused 21 0` instead; with a file refusal that form (number, place) is the only line."
-- Assumes nothing.
use Rattle.std.specs.Prelude.{ℕ, false, List, [], ◌∷◌, ◌++◌, map, length, get_or, drop, leb}
use Rattle.std.proofs.Math.Option.{Option, none, some}
use Rattle.notation.specs.Checked.{Checked, refused, passed, require, ◌>>◌}
use Rattle.notation.specs.Lists.{only, each}
use Rattle.notation.specs.Texts.{Text, decimal, line}
use Rattle.taskfile.specs.declared.Task.{Task}
use Rattle.taskfile.specs.Judgement.{task_numbers}
use Rattle.taskfile.specs.Records.{File}
use Rattle.taskfile.specs.Tables.{tasks_of, task_of}
use Rattle.timing.specs.Accepted.{Accepted, accept}
use Rattle.timing.specs.declared.Job.{Job}
use Rattle.timing.specs.Jobs.{jobs_within}
use Rattle.timing.specs.Relations.{job_numbers}
use Rattle.plan.specs.Legality.{rounds_of}
use Rattle.plan.specs.Plans.{legal_run}
use Rattle.plan.specs.Runs.{JobRuns, job_total}
use Rattle.matching.specs.Conversions.{plan_of}
use Rattle.walk.specs.WalkEntry.{decided}
use Rattle.walk.specs.Walks.{EndedOrder, Walked, walk}
use Rattle.sheets.specs.declared.SheetAnswer.{SheetAnswer}
use Rattle.sheets.specs.SheetWords.{tasks_word, task_word, jobs_word, job_word, response_word, verdict_word}
use Rattle.sheets.specs.SheetWords.{holds_word, fails_word, order_word, failed_word, rounds_word, refused_word}

-- "uses allowance 1,000,000"
abbrev pub sheet_allowance : ℕ
sheet_allowance = 1_000_000

-- "refused 21 0", or a file's number and place
unfoldable pub refused_line : ℕ → ℕ → Text
refused_line number place = line refused_word (decimal number ∷ decimal place ∷ [])

-- ---- totals and tasks

-- "tasks 2 jobs 2"
unfoldable pub totals_line : Accepted → Text
totals_line a = line tasks_word (decimal (length (tasks_of a.table)) ∷ jobs_word ∷ decimal (job_total a) ∷ [])

-- "task 0 response 3 jobs 1"
unfoldable pub task_line : Accepted → Task → Text
task_line a i =
    line task_word
    (decimal i.0
    ∷ response_word
    ∷ decimal (get_or a.responses i.0 0)
    ∷ jobs_word
    ∷ decimal (jobs_within a.table.window (task_of a.table i))
    ∷ [])

-- ---- a failing order

-- "`order` gives the bytes"
unfoldable pub order_line : List ℕ → Text
order_line order = line order_word (map decimal order)

-- "`failed` job numbers ascending"
unfoldable pub failed_line : Accepted → EndedOrder → Text
failed_line a found =
    line failed_word
    (map (λ x. decimal x.0) (only (λ x. get_or found.ending.failed x.0 false) (job_numbers a)))

-- "job 0 rounds 0 1 1 1 1"
unfoldable pub rounds_line : JobRuns → Job → Text
rounds_line runs x = line job_word (decimal x.0 ∷ rounds_word ∷ map (λ r. decimal r.0) (rounds_of runs x))

-- "then each job's rounds in that order's plan"
unfoldable pub rounds_lines : Accepted → Checked ℕ JobRuns → Text
rounds_lines a (refused number place) = []
rounds_lines a (passed runs) = each (job_numbers a) (rounds_line runs)

-- ---- the walk

-- "the number after the verdict is the count"
unfoldable pub verdict_lines : Accepted → ℕ → Option EndedOrder → Text
verdict_lines a count none = line verdict_word (holds_word ∷ decimal count ∷ [])
verdict_lines a count (some found) =
    line verdict_word (fails_word ∷ decimal count ∷ [])
    ++ order_line found.bytes
    ++ failed_line a found
    ++ rounds_lines a (legal_run a (plan_of a found.bytes))

-- "With 21 it ends at `refused 21 0` instead"
unfoldable pub findings : Accepted → Checked ℕ Walked → Text
findings a (refused number place) = refused_line number place
findings a (passed walked) = verdict_lines a walked.count walked.failing

-- ---- the sheet

unfoldable pub table_sheet : Accepted → Text
table_sheet a =
    totals_line a ++ each (task_numbers a.table) (task_line a) ++ findings a (decided sheet_allowance (walk a))

-- "with a file refusal that form (number, place) is the only line"
unfoldable pub sheet_from : Checked ℕ Accepted → Text
sheet_from (refused number place) = refused_line number place
sheet_from (passed a) = table_sheet a

unfoldable pub sheet_of : File → Text
sheet_of f = sheet_from (accept f)

-- ---- the entry: 20 for a text that may be too short, which then stays as it was; else the sheet at its front

-- the longest sheet has at most so many bytes
abbrev pub sheet_room : ℕ
sheet_room = 4_608

unfoldable pub printed : File → List ℕ → Checked ℕ Text
printed f text = do
  require (leb sheet_room (length text)) 20 0
  passed (sheet_of f)

unfoldable pub sheet_answer_of : Checked ℕ Text → SheetAnswer
sheet_answer_of (refused number place) = record { number = number; place = place; length = 0 }
sheet_answer_of (passed sheet) = record { number = 0; place = 0; length = length sheet }

unfoldable pub sheet_after_of : Checked ℕ Text → List ℕ → List ℕ
sheet_after_of (refused number place) text = text
sheet_after_of (passed sheet) text = sheet ++ drop (length sheet) text

unfoldable pub sheet_answer : File → List ℕ → SheetAnswer
sheet_answer f text = sheet_answer_of (printed f text)

unfoldable pub sheet_after : File → List ℕ → List ℕ
sheet_after f text = sheet_after_of (printed f text) text
