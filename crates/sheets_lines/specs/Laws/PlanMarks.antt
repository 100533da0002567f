-- Laws of the marks of an order's plan: the plan stands whole in its array, its check passes, and the marks that the
-- check leaves hold the rounds of its run.
-- Assumes nothing.
use Rattle.std.specs.Prelude.{◌≡◌, ℕ, ◌≤◌, ◌<◌, length, take, replicate, Ok, Err}
use Rattle.std.proofs.Math.Path.{sym, ap}
use Rattle.std.proofs.Common.{◌∙◌, arith}
use mathlib.Core.List.{List, [], ◌∷◌, map}
use Rattle.std.proofs.Math.ListN.{get_or}
use Rattle.std.proofs.lemmas.List.{length-replicate}
use Rattle.notation.specs.Checked.{passed}
use Rattle.notation.specs.Laws.ElementLaws.{each_same}
use Rattle.notation.specs.Laws.ListLaws.{each_map}
use Rattle.notation.specs.Laws.TabulateLaws.{values_at}
use Rattle.notation.specs.Lists.{up_to, each}
use Rattle.notation.specs.Texts.{decimal, line}
use Rattle.taskfile.specs.declared.refusals.Refused.{Refused}
use Rattle.taskfile.specs.declared.Table.{Table}
use Rattle.timing.specs.Accepted.{Accepted}
use Rattle.timing.specs.Code.JobParts.{job_list_of}
use Rattle.timing.specs.Relations.{job_numbers}
use Rattle.timing.specs.declared.JobList.{JobList}
use Rattle.machine.specs.Buffers.{plan_room}
use Rattle.machine.specs.declared.End.{End}
use Rattle.order.specs.Orders.{OrderEnds}
use Rattle.plan.specs.Legality.{steps_of, rounds_of}
use Rattle.plan.specs.Plans.{legal_run}
use Rattle.plan.specs.Runs.{Step, JobRuns, job_total}
use Rattle.plan.specs.declared.Round.{Round}
use Rattle.matching.specs.Conversions.{plan_of}
use Rattle.matching.proofs.Laws.ConversionLaws.{order_legal}
use Rattle.matching.proofs.Laws.FitsLaws.{fill_keeps}
use Rattle.plan_marks.specs.declared.Marks.{Marks}
use Rattle.plan_marks.specs.Code.Marks.{no_marks, steps_marked, rounds_in, steps_in}
use Rattle.plan_marks.specs.Code.TableParts.{PlanCheckedOf}
use Rattle.plan_marks.specs.declared.PlanChecked.{PlanChecked}
use Rattle.matching_plans.specs.Code.PlanWritten.{PlanWritten}
use Rattle.sheets.specs.Sheets.{rounds_line, rounds_lines}
use Rattle.sheets.specs.SheetWords.{job_word, rounds_word}
use Rattle.sheets_failing.specs.Code.LineParts.{job_line}
use Rattle.sheets_lines.specs.Code.SheetParts.{PartsOf, MarksOf}

-- ---- the lines of a run

module _ (a : Accepted) (runs : JobRuns) (marks : Marks) (held : runs.steps ≡ steps_in marks (job_total a)) where
  -- a job's rounds in the run are those that are marked
  rounds_held : (x : ℕ) → x < job_total a → rounds_of runs (record { 0 = x }) ≡ rounds_in marks x
  unfolding rounds_of steps_of rounds_in steps_in
  rounds_held x lt =
      ap (map (λ (step : Step). step.round))
      (ap (λ (l : List (List Step)). get_or l x []) held ∙ values_at (steps_marked marks) (job_total a) x [] lt)

  line_marked : (x : ℕ) → x < job_total a → rounds_line runs (record { 0 = x }) ≡ job_line marks x
  unfolding rounds_line
  line_marked x lt =
      ap (λ (rs : List Round). line job_word (decimal x ∷ rounds_word ∷ map (λ r. decimal r.0) rs)) (rounds_held x lt)

  lines_marked : rounds_lines a (passed runs) ≡ each (up_to (job_total a)) (job_line marks)
  unfolding rounds_lines job_numbers job_total
  lines_marked =
      each_map (λ n. record { 0 = n }) (up_to (job_total a)) (rounds_line runs)
      ∙ each_same (job_total a) (λ x. rounds_line runs (record { 0 = x })) (job_line marks) line_marked

-- ---- the plan in its array

-- the array that a plan is written into
pub plan_room_lem : plan_room ≤ length (replicate {A = ℕ} plan_room 0)
plan_room_lem = omega (arith, length-replicate {A = ℕ} plan_room 0)

module _ {t : Table} {list : JobList} {order before after : List ℕ} {n : ℕ} (written : PlanWritten t list order before after n) where
  -- a complete order's plan stands whole in it
  plan_held : {a : Accepted} → PartsOf a t list → {e : End} → OrderEnds a order e → take n after ≡ plan_of a order
  plan_held {a} p ends =
      let made = written.written a p.accepted p.table p.listed ends.after ends.complete in
      let short : length (plan_of a order) ≤ plan_room = omega (arith, made.0, written.fits) in
      (λ j. take (made.0 j) (made.1 j)) ∙ fill_keeps plan_room (plan_of a order) before short

  pub plan_marked : {legal : PlanChecked} → PlanCheckedOf t list (take n after) (Ok legal) → MarksOf t list order legal.marks
  unfolding job_list_of job_total
  plan_marked {legal} checked = record {
    rounds = λ a p {e} ends.
        (let run = checked.checks a p.accepted p.table p.listed in
        let whole : legal_run a (plan_of a order) ≡ passed run.runs =
        ap (legal_run a) (sym (plan_held p ends)) ∙ run.legal in
        let count : job_total a ≡ list.count = sym (ap (λ (l : JobList). l.count) p.listed) in
        ap (rounds_lines a) whole
        ∙ lines_marked a run.runs legal.marks run.steps
        ∙ ap (λ (k : ℕ). each (up_to k) (job_line legal.marks)) count);
  }

  -- so its plan is not refused
  pub plan_unrefused : {e : Refused ℕ} → PlanCheckedOf t list (take n after) (Err e)
      → MarksOf t list order no_marks
  plan_unrefused checked = record {
    rounds = λ a p {e} ends.
        (let legal = order_legal p.accepted ends in
        let refused = checked.checks a p.accepted p.table p.listed in
        let whole : legal_run a (take n after) ≡ passed legal.runs = ap (legal_run a) (plan_held p ends) ∙ legal.legal in
        absurd (cc));
  }
