-- How long a sheet can be: the lines of a table with 8 tasks and 32 jobs, and of a failing order of 512 bytes.
-- Assumes nothing.
use Rattle.std.specs.Prelude.{◌≡◌, ℕ, ◌+◌, ◌≤◌, ◌<◌, List, [], ◌∷◌, map, leb}
use Rattle.std.proofs.Math.Path.{refl}
use Rattle.std.proofs.Common.{ap}
use native.Mathlib.Omega.{arith}
use Rattle.std.proofs.Math.Bool.{Bool, false}
use Rattle.std.proofs.Math.Option.{Option, none, some}
use Rattle.std.proofs.Math.ListN.{length, get_or, length-append}
use Rattle.notation.specs.Checked.{Checked, refused, passed, require}
use Rattle.notation.specs.Laws.CheckedLaws.{passed_same, then_passed}
use Rattle.notation.specs.Laws.PairLaws.{every_imp, every_map, from_within}
use Rattle.notation.specs.Laws.QuantifierLaws.{map_length}
use Rattle.notation.specs.Lists.{from, up_to, only, each}
use Rattle.notation.specs.Ordered.{Every}
use Rattle.notation.specs.Laws.DecimalLaws.{decimal_few}
use Rattle.notation.specs.Laws.TextSizes.{each_most, only_most, sum_part, decimal_most, spaced_most, line_most}
use Rattle.notation.specs.Texts.{Text, decimal, spaced, line}
use Rattle.taskfile.specs.declared.Task.{Task}
use Rattle.taskfile.specs.Judgement.{task_numbers}
use Rattle.taskfile.proofs.Laws.JudgingLaws.{tasks_length}
use Rattle.taskfile.proofs.Laws.TableLaws.{every_task, task_numbers_length}
use Rattle.taskfile.specs.Records.{File}
use Rattle.taskfile.specs.Tables.{tasks_of, task_of, no_task}
use Rattle.timing.specs.Accepted.{Accepted, accept}
use Rattle.timing.specs.Code.IsAccepted.{IsAccepted}
use Rattle.timing.specs.declared.Job.{Job}
use Rattle.timing.specs.Jobs.{job_count, jobs_within}
use Rattle.timing.proofs.Laws.AcceptedLaws.{file_accepted}
use Rattle.timing.proofs.Laws.JobFacts.{jobs_few}
use Rattle.timing.proofs.Laws.JobNumberLaws.{jobs_length}
use Rattle.timing.specs.Relations.{IsJob, job_numbers}
use Rattle.order.proofs.Laws.StepLaws.{initial_invariant}
use Rattle.plan.specs.declared.Round.{Round}
use Rattle.plan.specs.Legality.{rounds_of}
use Rattle.plan.specs.Plans.{legal_run}
use Rattle.plan.specs.Runs.{Plan, JobRuns, job_total}
use Rattle.matching.specs.Conversions.{plan_of}
use Rattle.walk.proofs.Laws.FailingLaws.{walk_first, walk_short}
use Rattle.walk.specs.WalkEntry.{decided}
use Rattle.walk.specs.Walks.{EndedOrder, Walked, walk}
use Rattle.sheets.proofs.Laws.FoundSizes.{run_small, rounds_few, rounds_below}
use Rattle.sheets.specs.Sheets.{sheet_allowance, refused_line, totals_line, task_line, order_line, failed_line}
use Rattle.sheets.specs.Sheets.{rounds_line, rounds_lines, verdict_lines, findings, table_sheet, sheet_from}
use Rattle.sheets.specs.Sheets.{sheet_of, sheet_room}
use Rattle.sheets.specs.SheetWords.{tasks_word, task_word, jobs_word, job_word, response_word, verdict_word}
use Rattle.sheets.specs.SheetWords.{holds_word, fails_word, order_word, failed_word, rounds_word, refused_word}

-- ---- lines of fixed form

-- "refused 21 0", whatever the numbers
refused_most : (number place : ℕ) → length (refused_line number place) ≤ 50
unfolding refused_line line spaced refused_word
refused_most number place =
    simp length-append (omega (arith, decimal_most number, decimal_most place))

-- "tasks 2 jobs 2"
totals_most : (a : Accepted) → length (totals_line a) ≤ 53
unfolding totals_line line spaced tasks_word jobs_word
totals_most a =
    simp length-append (omega (arith, decimal_most (length (tasks_of a.table)), decimal_most (job_total a)))

-- "verdict holds 23", "verdict fails 23"
holds_most : (count : ℕ) → length (line verdict_word (holds_word ∷ decimal count ∷ [])) ≤ 35
unfolding line spaced verdict_word holds_word
holds_most count = simp length-append (omega (arith, decimal_most count))

fails_most : (count : ℕ) → length (line verdict_word (fails_word ∷ decimal count ∷ [])) ≤ 35
unfolding line spaced verdict_word fails_word
fails_most count = simp length-append (omega (arith, decimal_most count))

-- what is decided is what was walked
decided_same : (walked w : Walked) → decided sheet_allowance walked ≡ passed w → walked ≡ w
unfolding decided
decided_same walked w e =
    passed_same (then_passed (require (leb walked.count sheet_allowance) 21 0) (passed walked) e).2

-- ---- the tasks' lines

module _ {a : Accepted} (ok : IsAccepted a) where
  tasks_few : length (tasks_of a.table) ≤ 8
  tasks_few = omega (arith, tasks_length _ ok.is_made.shaped, ok.is_made.shaped.tasks_within)

  -- a task has no more jobs than all have together
  jobs_within_lem : (i : Task) → i.0 < length (tasks_of a.table)
      → jobs_within a.table.window (task_of a.table i) ≤ 32
  unfolding task_of job_count
  jobs_within_lem i lt =
      omega (arith, sum_part (jobs_within a.table.window) (tasks_of a.table) i.0 no_task lt, ok.is_timed.few)

  -- "task 0 response 3 jobs 1"
  task_most : (i : Task) → i.0 < length (tasks_of a.table) → length (task_line a i) ≤ 45
  unfolding task_line line spaced task_word response_word jobs_word
  task_most i lt =
      let jobs = jobs_within a.table.window (task_of a.table i) in
      simp length-append
      (omega (
        arith,
        decimal_few 1 i.0 (omega arith) (omega (arith, tasks_few)),
        decimal_most (get_or a.responses i.0 0),
        decimal_few 2 jobs (omega arith) (omega (arith, jobs_within_lem i lt)),
      ))

  tasks_most : length (each (task_numbers a.table) (task_line a)) ≤ 360
  tasks_most =
      omega (
        arith,
        tasks_few,
        task_numbers_length a.table,
        each_most 45 (task_line a) (task_numbers a.table)
            (every_task a.table (λ i. length (task_line a i) ≤ 45) task_most),
      )

  -- ---- the jobs' numbers

  jobs_small : Every (IsJob a) (job_numbers a)
  unfolding job_numbers up_to
  jobs_small =
      let n = length a.jobs in
      every_map (IsJob a) (λ k. record { 0 = k }) (from 0 n)
      (every_imp (λ k. (0 ≤ k) × (k < 0 + n)) (λ k. k < n) (λ k h. omega (arith, h.1)) (from 0 n) (from_within 0 n))

  job_digits : (x : Job) → IsJob a x → length (decimal x.0) < 3
  job_digits x isJob =
      omega (arith, decimal_few 2 x.0 (omega arith) (omega (arith, jobs_few ok.is_timed)))

  -- ---- the lines of a failing order

  -- "order 0 16 16 16 0 0 0 0"
  order_most : (bytes : List ℕ) → length bytes ≤ 512 → Every (λ byte. byte < 128) bytes
      → length (order_line bytes) ≤ 2054
  unfolding order_line order_word
  order_most bytes few small =
      let digits = every_imp (λ byte. byte < 128) (λ byte. length (decimal byte) < 4)
      (λ byte h. omega (arith, decimal_few 3 byte (omega arith) (omega arith))) bytes small in
      omega (
        arith,
        map_length decimal bytes,
        line_most 4 order_word (map decimal bytes) (every_map (λ w. length w < 4) decimal bytes digits),
      )

  -- "failed 0"
  failed_most : (found : EndedOrder) → length (failed_line a found) ≤ 103
  unfolding failed_line failed_word
  failed_most found =
      let test : Job → Bool = λ x. get_or found.ending.failed x.0 false in
      let number : Job → Text = λ x. decimal x.0 in
      let those = only test (job_numbers a) in
      let chosen = only_most (IsJob a) test (job_numbers a) jobs_small in
      let digits = every_imp (IsJob a) (λ x. length (number x) < 3) job_digits those chosen.0 in
      omega (
        arith,
        chosen.1,
        jobs_length a,
        jobs_few ok.is_timed,
        map_length number those,
        line_most 3 failed_word (map number those) (every_map (λ w. length w < 3) number those digits),
      )

  module _ (plan : Plan) {runs : JobRuns} (legal : legal_run a plan ≡ passed runs) where
    -- "job 0 rounds 0 1 1 1 1"
    rounds_most : (x : Job) → IsJob a x → length (rounds_line runs x) ≤ 62
    unfolding rounds_line line spaced job_word rounds_word job_total
    rounds_most x isJob =
        let number : Round → Text = λ r. decimal r.0 in
        let rounds = rounds_of runs x in
        let digits = every_imp (λ r. r.0 < job_total a) (λ r. length (number r) < 3)
        (λ r h. omega (arith, decimal_few 2 r.0 (omega arith) (omega (arith, jobs_few ok.is_timed))))
        rounds (rounds_below a plan legal x isJob) in
        let rest = spaced_most 3 rounds_word (map number rounds) (every_map (λ w. length w < 3) number rounds digits) in
        simp length-append
        (omega (arith, job_digits x isJob, rest, map_length number rounds, rounds_few a plan legal x))

    all_rounds_most : length (each (job_numbers a) (rounds_line runs)) ≤ 1984
    all_rounds_most =
        omega (
          arith,
          jobs_length a,
          jobs_few ok.is_timed,
          each_most 62 (rounds_line runs) (job_numbers a)
              (every_imp (IsJob a) (λ x. length (rounds_line runs x) ≤ 62) rounds_most (job_numbers a) jobs_small),
        )

  run_most : (plan : Plan) (c : Checked ℕ JobRuns) → legal_run a plan ≡ c → length (rounds_lines a c) ≤ 1984
  unfolding rounds_lines
  run_most plan (refused number place) e = omega arith
  run_most plan (passed runs) e = all_rounds_most plan e

  -- ---- the walk's lines

  verdict_most : (count : ℕ) (o : Option EndedOrder) → (walk a).failing ≡ o → length (verdict_lines a count o) ≤ 4176
  unfolding verdict_lines
  verdict_most count none e = omega (arith, holds_most count)
  verdict_most count (some found) e =
      let whole = (walk_first ok found e).failing.complete in
      let small = run_small ok (initial_invariant a) found.bytes whole.complete.allowed in
      let plan = plan_of a found.bytes in
      simp length-append
      (omega (
        arith,
        fails_most count,
        order_most found.bytes (walk_short ok found e) small,
        failed_most found,
        run_most plan (legal_run a plan) refl,
      ))

  findings_most : (c : Checked ℕ Walked) → ((w : Walked) → c ≡ passed w → walk a ≡ w) → length (findings a c) ≤ 4176
  unfolding findings
  findings_most (refused number place) same = omega (arith, refused_most number place)
  findings_most (passed w) same = verdict_most _ w.failing (ap (λ (x : Walked). x.failing) (same w refl))

  -- ---- the table's sheet

  table_most : length (table_sheet a) ≤ sheet_room
  unfolding table_sheet
  table_most =
      let c = decided sheet_allowance (walk a) in
      simp length-append (omega (arith, totals_most a, tasks_most, findings_most c (decided_same (walk a))))

from_most : (c : Checked ℕ Accepted) → ((a : Accepted) → c ≡ passed a → IsAccepted a) → length (sheet_from c) ≤ sheet_room
unfolding sheet_from
from_most (refused number place) ok = omega (arith, refused_most number place)
from_most (passed a) ok = table_most (ok a refl)

-- no sheet is longer than the room that the entry asks for
pub sheet_fits : (f : File) → length (sheet_of f) ≤ sheet_room
unfolding sheet_of
sheet_fits f = from_most (accept f) (λ a e. file_accepted f e)
