-- Laws of the whole sheet, and of what its entry answers and leaves.
-- Assumes nothing.
use Rattle.std.specs.Prelude.{◌≡◌, List, [], ◌∷◌, ◌++◌, leb}
use Rattle.std.proofs.Math.Path.{sym, ap, ap₂}
use Rattle.std.proofs.Common.{subst, ◌∙◌, arith, le-leb}
use Prim.Native.Nat.{ℕ, ◌≤◌, ◌<◌}
use Rattle.std.proofs.Math.ListN.{length}
use Rattle.std.proofs.lemmas.Bool.{lt-leb}
use Rattle.notation.specs.Checked.{Checked, refused, passed, mapped}
use Rattle.notation.specs.Laws.CheckedLaws.{require_holds, require_fails}
use Rattle.notation.specs.Lists.{up_to, each}
use Rattle.notation.specs.Texts.{Text, decimal, line}
use Rattle.taskfile.proofs.Laws.JudgingLaws.{tasks_length}
use Rattle.taskfile.specs.Records.{File}
use Rattle.taskfile.specs.Tables.{tasks_of}
use Rattle.taskfile.specs.declared.Table.{Table}
use Rattle.timing.specs.Accepted.{Accepted, accept}
use Rattle.timing.specs.Code.AcceptParts.{AcceptedParts, accepted_file}
use Rattle.timing.specs.Code.IsAccepted.{IsAccepted}
use Rattle.timing.specs.Code.JobParts.{job_list_of}
use Rattle.timing.specs.Code.ResponseParts.{Timeable}
use Rattle.timing.proofs.Laws.AcceptLaws.{accepted_refused, accepted_passed, accepted_timeable}
use Rattle.timing.proofs.Laws.AcceptedLaws.{file_accepted}
use Rattle.timing.proofs.Laws.JobFacts.{jobs_few}
use Rattle.timing.specs.declared.AcceptedFile.{AcceptedFile}
use Rattle.timing.specs.declared.JobList.{JobList}
use Rattle.plan.specs.Runs.{job_total}
use Rattle.notation_buffers.specs.Laws.WritingLaws.{appends_count, appends_front}
use Rattle.sheets.proofs.Laws.SheetSizes.{sheet_fits}
use Rattle.sheets.specs.Sheets.{refused_line, totals_line, table_sheet, sheet_from, sheet_of}
use Rattle.sheets.specs.Sheets.{sheet_room, printed, sheet_answer_of, sheet_after_of, sheet_answer, sheet_after}
use Rattle.sheets.specs.SheetWords.{tasks_word, jobs_word}
use Rattle.notation_buffers.specs.declared.pages.Page.{Page}
use Rattle.notation_buffers.specs.Code.Pages.{Puts}
use Rattle.notation_buffers.specs.Code.Writing.{Appends}
use Rattle.notation_buffers.specs.Laws.PageLaws.{puts_same, puts_more}
use Rattle.sheets_lines.specs.Code.SheetParts.{task_text, PartsOf, Parts, findings_of, PutsFindings}
use Rattle.sheets_lines.specs.Laws.TaskLines.{task_lines_held}

-- ---- the sheet

module _ (f : File) where
  -- a refused file's sheet is the line of its refusal
  pub sheet_refused : {number place : ℕ} → refused number place ≡ mapped accepted_file (accept f)
      → {before after : Page} → Puts before (refused_line number place) after → Puts before (sheet_of f) after
  unfolding sheet_of sheet_from
  sheet_refused e puts = puts_same (sym (ap sheet_from (accepted_refused (accept f) e))) puts

  module _ {x : AcceptedFile} (says : passed x ≡ mapped accepted_file (accept f)) where
    abbrev found : (a : Accepted) × (accept f ≡ passed a) × AcceptedParts x a
    found = accepted_passed (accept f) says

    abbrev a : Accepted
    a = found.0

    timeable : Timeable a.table
    timeable = accepted_timeable f found.1

    ok : IsAccepted a
    ok = file_accepted f found.1

    count : x.list.count ≡ job_total a
    unfolding job_list_of job_total
    count = ap (λ (l : JobList). l.count) found.2.list

    -- the parts of an accepted file, as its functions ask for them
    pub table_timeable : Timeable x.table
    table_timeable = subst Timeable (sym found.2.table) timeable

    pub jobs_within_room : x.list.count ≤ 32
    unfolding job_total
    jobs_within_room = omega (arith, count, jobs_few ok.is_timed)

    parts_of : PartsOf a x.table x.list
    parts_of = record { accepted = ok; table = found.2.table; listed = found.2.list }

    pub some_parts : Parts x.table x.list
    some_parts = (a, parts_of)

    totals_are : line tasks_word (decimal x.table.tasks ∷ jobs_word ∷ decimal x.list.count ∷ []) ≡ totals_line a
    unfolding totals_line
    totals_are =
        let tasks : x.table.tasks ≡ length (tasks_of a.table) =
        ap (λ (t : Table). t.tasks) found.2.table ∙ sym (tasks_length a.table timeable.shaped) in
        ap₂ (λ (n k : ℕ). line tasks_word (decimal n ∷ jobs_word ∷ decimal k ∷ [])) tasks count

    sheet_is : (line tasks_word (decimal x.table.tasks ∷ jobs_word ∷ decimal x.list.count ∷ [])
        ++ each (up_to x.table.tasks) (task_text x.table x.responses)) ++ findings_of a
        ≡ sheet_of f
    unfolding sheet_of sheet_from table_sheet findings_of
    sheet_is =
        ap₂ (λ (k l : Text). (k ++ l) ++ findings_of a) totals_are (task_lines_held found.2 timeable)
        ∙ sym (ap sheet_from found.1)

    -- an accepted file's sheet: totals, tasks, findings
    pub sheet_put : {before one two after : Page}
        → Puts before (line tasks_word (decimal x.table.tasks ∷ jobs_word ∷ decimal x.list.count ∷ [])) one
        → Puts one (each (up_to x.table.tasks) (task_text x.table x.responses)) two
        → PutsFindings x.table x.list two after → Puts before (sheet_of f) after
    sheet_put first second third = puts_same sheet_is (puts_more (puts_more first second) (third a parts_of))

-- ---- the entry

module _ (f : File) (text : List ℕ) where
  -- a text that may be too short stays as it was
  pub sheet_no_room : length text < sheet_room
      → (record { number = 20; place = 0; length = 0 } ≡ sheet_answer f text) × (text ≡ sheet_after f text)
  unfolding sheet_answer sheet_answer_of sheet_after sheet_after_of printed
  sheet_no_room short =
      let is =
      require_fails {P = ℕ} (leb sheet_room (length text)) 20 0 (passed (sheet_of f)) (lt-leb sheet_room (length text) short) in
      (sym (ap sheet_answer_of is), sym (ap (λ (c : Checked ℕ Text). sheet_after_of c text) is))

  module _ (enough : sheet_room ≤ length text) {after : List ℕ} {n : ℕ} (puts : Appends (length text) text 0 (sheet_of f) after n) where
    -- the sheet is within its room, and so within the text
    fits : length (sheet_of f) ≤ length text
    fits = omega (arith, sheet_fits f)

    counted : n ≡ length (sheet_of f)
    counted = appends_count puts fits

    pub sheet_within : n ≤ sheet_room
    sheet_within = omega (arith, counted, sheet_fits f)

    pub sheet_answers : (record { number = 0; place = 0; length = n } ≡ sheet_answer f text) × (after ≡ sheet_after f text)
    unfolding sheet_answer sheet_answer_of sheet_after sheet_after_of printed
    sheet_answers =
        let is =
        require_holds {P = ℕ} (leb sheet_room (length text)) 20 0 (passed (sheet_of f)) (le-leb sheet_room (length text) enough) in (
          ap (λ (k : ℕ). record { number = 0; place = 0; length = k }) counted ∙ sym (ap sheet_answer_of is),
          appends_front puts fits ∙ sym (ap (λ (c : Checked ℕ Text). sheet_after_of c text) is),
        )
