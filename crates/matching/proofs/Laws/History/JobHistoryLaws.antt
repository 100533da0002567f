-- A job that runs in a plan runs to its End over whole marks, whose bytes stand in the plan.
-- Assumes nothing.
use Rattle.std.specs.Prelude.{◌≡◌, ◌⊎◌, true, false, ◌&&◌, length, get_or, drop, leb, ltb}
use Rattle.std.proofs.Math.Path.{refl, ap, subst}
use Rattle.std.proofs.Common.{sym, ◌∙◌, arith, drop-cons, ltb-true, leb-true}
use Rattle.std.proofs.Math.Logic.{inl, inr}
use Prim.Native.Nat.{ℕ, zero, suc, ◌+◌, ◌≤◌, ◌<◌}
use Rattle.std.proofs.Math.Bool.{Bool}
use mathlib.Core.List.{List, [], ◌∷◌, ◌++◌, map}
use Rattle.notation.specs.Checked.{Checked, passed, require}
use Rattle.notation.specs.Laws.CheckedLaws.{passed_same, bind_passed, then_passed, require_passed}
use Rattle.std.specs.Prelude.{if◌then◌else◌}
use Rattle.notation.specs.Lists.{each}
use Rattle.taskfile.specs.Tables.{task_of, body_of}
use Rattle.notation.specs.Laws.TestLaws.{and_both, not_both, test_holds}
use Rattle.timing.specs.Accepted.{Accepted}
use Rattle.timing.specs.Code.IsAccepted.{IsAccepted}
use Rattle.timing.proofs.Laws.JobFacts.{job_task}
use Rattle.timing.specs.Relations.{base, job_at}
use Rattle.machine.proofs.Laws.BodyLaws.{body_step}
use Rattle.machine.specs.Ends.{Flags, flagged}
use Rattle.machine.specs.Instructions.{Store, fresh}
use Rattle.order.proofs.Laws.LengthLaws.{body_short}
use Rattle.plan.specs.Runs as runs
use Rattle.plan.specs.Runs.{Plan, JobRun, job_total, first_round, step_bytes_for, step_bytes, step_effect, step_made, running_after, run_job}
use Rattle.matching.proofs.Laws.History.Histories.{Mark, ColumnRun, job, round, unbegun, effect_of, stepped, mark_step, run_marks}
use Rattle.matching.proofs.Laws.History.PlanReading.{marks_bytes, mark_of, step_of, Allowed, Whole, standing}

-- ---- a mark in a plan

-- the mark that stands at an offset
unfoldable mark_at : Plan → ℕ → Mark
mark_at plan o = record { round = get_or plan o 0; value = get_or plan (o + 1) 0 }

-- it and what stands after it
mark_stands : (plan : Plan) (o : ℕ) → o + 1 < length plan
    → drop o plan ≡ (mark_at plan o).round ∷ (mark_at plan o).value ∷ drop (o + 2) plan
unfolding mark_at
mark_stands plan o inside =
    let one : suc o ≡ o + 1 = omega arith in
    let two : suc (suc o) ≡ o + 2 = omega arith in
    drop-cons plan o 0 (omega arith)
    ∙ ap (λ (l : List ℕ). get_or plan o 0 ∷ l) (drop-cons plan (suc o) 0 (omega arith))
    ∙ ap (λ (k : ℕ). get_or plan o 0 ∷ get_or plan k 0 ∷ drop (suc (suc o)) plan) one
    ∙ ap (λ (k : ℕ). get_or plan o 0 ∷ get_or plan (o + 1) 0 ∷ drop k plan) two

-- a step's two bytes that pass are in the plan and are an allowed mark
bytes_say : (a : Accepted) (plan : Plan) (x : ℕ) (c : ColumnRun) (previous o : ℕ) {u : Unit {0}}
    → step_bytes a plan (job x) c.column.local (round previous) o ≡ passed u
    → (o + 1 < length plan) × Allowed a x previous (mark_at plan o) c
unfolding step_bytes step_bytes_for mark_at
bytes_say a plan x c previous o e =
    let first = then_passed (require (ltb (o + 1) (length plan)) 40 (length plan)) _ e in
    let second = then_passed (require (ltb (get_or plan o 0) (job_total a) && leb previous (get_or plan o 0)) 42 o) _ first.2 in
    let rounds = and_both (ltb (get_or plan o 0) (job_total a)) _ (test_holds _ (require_passed _ 42 o second.1)) in (
      ltb-true _ _ (test_holds _ (require_passed _ 40 (length plan) first.1)),
      record {
        in_plan = ltb-true _ _ rounds.0;
        in_order = leb-true _ _ rounds.1;
        on_offer = test_holds _ (require_passed _ 41 (o + 1) second.2);
      },
    )

-- which of two checks passed
chosen : {P A : Type 0} (b : Bool) {p : A} {q : Checked P A} {r : A} → (if b then passed p else q) ≡ passed r
    → ((b ≡ true) × (p ≡ r)) ⊎ ((b ≡ false) × (q ≡ passed r))
chosen true e = inl (refl, passed_same e)
chosen false e = inr (refl, e)

-- what a job's run of one step or more says: its mark is allowed, and it is the last or the run goes on after it
module _ (a : Accepted) (plan : Plan) (x left : ℕ) (c : ColumnRun) (previous o : ℕ) (flags : Flags) where
  abbrev here : Mark
  here = mark_at plan o

  -- where the run stands after it
  abbrev onward : runs.RunState
  onward = standing (o + 2) (flagged (effect_of a x here c).failed x flags) (mark_step a x here c)

  record Last (one : JobRun) : Type 0 where
    ends : (mark_step a x here c).column.ended ≡ true
    made : record { steps = step_of a x here (effect_of a x here c) ∷ []; running = onward } ≡ one

  record Later (one : JobRun) : Type 0 where
    rest : JobRun
    goes : (mark_step a x here c).column.ended ≡ false
    later : run_job a plan (job x) left (mark_step a x here c).column.local (round here.round) onward ≡ passed rest
    made : record { steps = step_of a x here (effect_of a x here c) ∷ rest.steps; running = rest.running } ≡ one

  job_says : {one : JobRun}
      → run_job a plan (job x) (suc left) c.column.local (round previous) (standing o flags c) ≡ passed one
      → (o + 1 < length plan) × Allowed a x previous here c × (Last one ⊎ Later one)
  unfolding run_job step_effect step_made running_after effect_of mark_step stepped step_of mark_at job
  job_says {one} e =
      let bytes = then_passed (step_bytes a plan (job x) c.column.local (round previous) o) _ e in
      let parts = bind_passed _ (λ rest. passed (record { steps = step_of a x here (effect_of a x here c) ∷ rest.steps; running = rest.running })) bytes.2 in
      let made = passed_same parts.2 in
      let allowed = bytes_say a plan x c previous o bytes.1 in (
        allowed.0,
        allowed.1,
        elim (chosen (effect_of a x here c).ended parts.1) [
          | inl last ↦ inl (record {
            ends = last.0;
            made = ap (λ (r : JobRun). record { steps = step_of a x here (effect_of a x here c) ∷ r.steps; running = r.running }) last.1 ∙ made;
          })
          | inr on ↦ inr (record { rest = parts.0; goes = on.0; later = on.1; made = made })
        ],
      )

-- the marks of a job's run are whole, and their bytes stand in the plan up to where the run left it
pub record JobBack (a : Accepted) (plan : Plan) (x previous o : ℕ) (c : ColumnRun) (one : JobRun) : Type 0 where
  pub whole : Whole a x previous (map mark_of one.steps) c
  pub bytes : drop o plan ≡ marks_bytes (map mark_of one.steps) ++ drop one.running.offset plan

module _ (a : Accepted) (plan : Plan) (x left : ℕ) (c : ColumnRun) (previous o : ℕ) (flags : Flags) {one : JobRun}
    (inside : o + 1 < length plan) (allowed : Allowed a x previous (mark_at plan o) c) where
  back_last : Last a plan x left c previous o flags one → JobBack a plan x previous o c one
  unfolding mark_of step_of marks_bytes each
  back_last last = subst (JobBack a plan x previous o c) last.made
      (record { whole = (allowed, inl (last.ends, refl)); bytes = mark_stands plan o inside })

  back_later : (on : Later a plan x left c previous o flags one)
      → JobBack a plan x (mark_at plan o).round (o + 2) (mark_step a x (mark_at plan o) c) on.rest
      → JobBack a plan x previous o c one
  unfolding mark_of step_of marks_bytes each
  back_later on back = subst (JobBack a plan x previous o c) on.made
      (record {
        whole = (allowed, inr (on.goes, back.whole));
        bytes = mark_stands plan o inside ∙ ap (λ (l : List ℕ). (mark_at plan o).round ∷ (mark_at plan o).value ∷ l) back.bytes;
      })

module _ (a : Accepted) (plan : Plan) (x : ℕ) where
  -- a job that runs to its End runs over whole marks, whose bytes stand in the plan
  pub job_read : (left previous o : ℕ) (c : ColumnRun) (flags : Flags) {one : JobRun}
      → run_job a plan (job x) left c.column.local (round previous) (standing o flags c) ≡ passed one
      → c.column.ended ≡ false
      → (run_marks a x (map mark_of one.steps) c).column.ended ≡ true → JobBack a plan x previous o c one
  unfolding run_job run_marks mark_of step_of
  job_read zero previous o c flags {one} e early ends =
      let none = ap (λ (r : JobRun). (run_marks a x (map mark_of r.steps) c).column.ended) (passed_same e) in
      absurd (not_both c.column.ended (none ∙ ends) early)
  job_read (suc left) previous o c flags {one} e early ends =
      let says = job_says a plan x left c previous o flags e in
      elim says.2 [
        | inl last ↦ back_last a plan x left c previous o flags says.0 says.1 last
        | inr on ↦
            (let ended = ap (λ (r : JobRun). (run_marks a x (map mark_of r.steps) c).column.ended) on.made ∙ ends in
            back_later a plan x left c previous o flags says.0 says.1 on
            (job_read left (mark_at plan o).round (o + 2) (mark_step a x (mark_at plan o) c) _ on.later on.goes ended))
      ]

-- ---- every job of an accepted table that runs, runs to its End

module _ {a : Accepted} (ok : IsAccepted a) (plan : Plan) (x : ℕ) (isJob : x < job_total a) where
  -- from a place in the body, as many steps as instructions are left are enough
  run_ended : (left previous o : ℕ) (c : ColumnRun) (flags : Flags) {one : JobRun}
      → run_job a plan (job x) left c.column.local (round previous) (standing o flags c) ≡ passed one
      → c.column.local.next < length (body_of (task_of a.table (job_at a (job x)).task))
      → length (body_of (task_of a.table (job_at a (job x)).task)) ≤ c.column.local.next + left
      → (run_marks a x (map mark_of one.steps) c).column.ended ≡ true
  unfolding run_marks mark_of step_of mark_step stepped effect_of base job job_total
  run_ended zero previous o c flags e inside enough = absurd (omega arith)
  run_ended (suc left) previous o c flags {one} e inside enough =
      let says = job_says a plan x left c previous o flags e in
      let known = job_task ok.is_timed (job x) isJob in
      let step = body_step a.table ok.is_judged (job_at a (job x)).task known c.column.local inside (mark_at plan o).value _ in
      let ended : JobRun → Bool = λ r. (run_marks a x (map mark_of r.steps) c).column.ended in
      elim says.2 [
        | inl last ↦ ap ended (sym last.made) ∙ last.ends
        | inr on ↦
            (let further = step on.goes in
            ap ended (sym on.made)
            ∙ run_ended left (mark_at plan o).round (o + 2) (mark_step a x (mark_at plan o) c) _ on.later further.1 (omega (arith, further)))
      ]

  -- a job's run in a plan is that of whole marks
  pub column_read : (o : ℕ) (stores : List Store) (flags : Flags) {one : JobRun}
      → run_job a plan (job x) 16 fresh first_round (record { offset = o; stores = stores; failed = flags }) ≡ passed one
      → JobBack a plan x 0 o (record { column = unbegun; stores = stores }) one
  unfolding unbegun fresh base job job_total
  column_read o stores flags e =
      let c : ColumnRun = record { column = unbegun; stores = stores } in
      let known = job_task ok.is_timed (job x) isJob in
      let some = ok.is_made.bodies (job_at a (job x)).task known in
      let short = body_short ok.is_made.shaped (job_at a (job x)).task known in
      job_read a plan x 16 0 o c flags e refl (run_ended 16 0 o c flags e some (omega arith))
