-- A plan that runs is written from its guesses and a history of whole jobs, the marks of its run: with
-- `PlanReadingLaws` the plans that run and such histories are one to one. `JobHistoryLaws` says so of each job.
-- Assumes nothing.
use Rattle.std.specs.Prelude.{◌≡◌, ◌&&◌, leb, ltb, eqb}
use Rattle.std.proofs.Math.Path.{refl, sym, ap, subst}
use Rattle.std.proofs.Common.{◌∙◌, take-append-drop, take-add, drop-drop, leb-true, eqb-true}
use Prim.Native.Nat.{ℕ, zero, suc, ◌+◌, ◌*◌, ◌≤◌, ◌<◌}
use native.Mathlib.Omega.{arith}
use mathlib.Core.List.{List, [], ◌∷◌, ◌++◌, map, append_assoc, append-nil}
use Rattle.std.proofs.Math.ListN.{length, get_or, take, drop, length-drop}
use Rattle.std.proofs.Math.Seq.{length-take-le, drop-length, drop-cons}
use Rattle.notation.specs.Checked.{passed, require}
use Rattle.notation.specs.Laws.CheckedLaws.{passed_same, bind_passed, then_passed, require_passed}
use Rattle.notation.specs.Lists.{from, up_to, each}
use Rattle.notation.specs.Laws.TestLaws.{and_both, test_holds}
use Rattle.timing.specs.declared.Job.{Job}
use Rattle.timing.specs.Accepted.{Accepted}
use Rattle.timing.specs.Code.IsAccepted.{IsAccepted}
use Rattle.timing.specs.Relations.{job_numbers}
use Rattle.machine.specs.Instructions.{fresh}
use Rattle.plan.specs.Runs as runs
use Rattle.plan.specs.Runs.{Plan, JobRun, JobRuns, job_total, round_numbers, first_round, guess, run_job, run_jobs, run_start, run_plan}
use Rattle.matching.proofs.Laws.History.Histories.{Mark, job, round}
use Rattle.matching.proofs.Laws.History.JobHistoryLaws.{column_read}
use Rattle.matching.proofs.Laws.History.JobReadingLaws.{column_runs, whole_short}
use Rattle.matching.proofs.Laws.History.PlanReading.{marks_bytes, written, mark_of, AllWhole, columns_run, Eights, guessed, guesses_of, marks_of}
use Rattle.matching.proofs.Laws.History.PlanReadingLaws.{numbers_from, plan_runs}
use Rattle.matching.proofs.Laws.History.RoundLaws.{guesses_total, guess_of}

-- ---- all jobs

-- the marks of a run of n jobs from number x on are whole, and their bytes stand in the plan up to where the run left
-- it
pub record JobsBack (a : Accepted) (plan : Plan) (x n : ℕ) (running : runs.RunState) (all : JobRuns) : Type 0 where
  pub full : length (marks_of all) ≡ n
  pub whole : AllWhole a x (marks_of all) running.stores
  pub bytes : drop running.offset plan ≡ each (marks_of all) marks_bytes ++ drop all.running.offset plan

module _ {a : Accepted} (ok : IsAccepted a) (plan : Plan) where
  -- one job and those after it
  back_more : (x n : ℕ) (running : runs.RunState) {one : JobRun} {others : JobRuns} → x < job_total a
      → run_job a plan (job x) 16 fresh first_round running ≡ passed one
      → JobsBack a plan (suc x) n one.running others
      → JobsBack a plan x (suc n) running (record { steps = one.steps ∷ others.steps; running = others.running })
  unfolding marks_of each
  back_more x n running {one} {others} isJob first later =
      let o : ℕ = running.offset in
      let back = column_read ok plan x isJob o running.stores running.failed first in
      let ms : List Mark = map mark_of one.steps in
      let short = whole_short ok x isJob ms running.stores back.whole in
      let again = column_runs a plan x running.stores ms 16 o running.failed _ back.whole back.bytes short in
      let same = ap (λ (r : JobRun). r.running.stores) (passed_same (sym first ∙ again)) in
      record {
        full = ap suc later.full;
        whole = (back.whole, subst (AllWhole a (suc x) (marks_of others)) same later.whole);
        bytes = back.bytes ∙ ap (λ (l : List ℕ). marks_bytes ms ++ l) later.bytes
            ∙ sym (append_assoc (marks_bytes ms) (each (marks_of others) marks_bytes) (drop others.running.offset plan));
      }

  -- n jobs that run are whole
  pub jobs_read : (n x : ℕ) (running : runs.RunState) {all : JobRuns} → x + n ≡ job_total a
      → run_jobs a plan (map job (from x n)) running ≡ passed all → JobsBack a plan x n running all
  unfolding run_jobs from marks_of each
  jobs_read zero x running total e =
      subst (JobsBack a plan x 0 running) (passed_same e) (record { full = refl; whole = tt; bytes = refl })
  jobs_read (suc n) x running total e =
      let one = bind_passed (run_job a plan (job x) 16 fresh first_round running) _ e in
      let others = bind_passed (run_jobs a plan (map job (from (suc x) n)) one.0.running) _ one.2 in
      let later = jobs_read n (suc x) one.0.running (omega arith) others.1 in
      subst (JobsBack a plan x (suc n) running) (passed_same others.2) (back_more x n running (omega arith) one.1 later)

-- ---- a plan

-- guess by guess, the guesses are the plan's bytes after the first
guesses_stand : (plan : Plan) (n x : ℕ)
    → each (map (guess plan) (map round (from x n))) (λ store. store) ≡ take (8 * n) (drop (1 + 8 * x) plan)
unfolding each from guess
guesses_stand plan zero x = let none : 8 * 0 ≡ 0 = omega arith in sym (ap (λ (k : ℕ). take k (drop (1 + 8 * x) plan)) none)
guesses_stand plan (suc n) x =
    let here : List ℕ = drop (1 + 8 * x) plan in
    let on : 1 + 8 * suc x ≡ 1 + 8 * x + 8 = omega arith in
    let more : 8 * suc n ≡ 8 + 8 * n = omega arith in
    ap (λ (l : List ℕ). take 8 here ++ l)
    (guesses_stand plan n (suc x) ∙ ap (λ (k : ℕ). take (8 * n) (drop k plan)) on ∙ ap (take (8 * n)) (sym (drop-drop 8 (1 + 8 * x) plan)))
    ∙ sym (take-add 8 (8 * n) here) ∙ ap (λ (k : ℕ). take k here) (sym more)

module _ (a : Accepted) (plan : Plan) (long : 1 + 8 * job_total a ≤ length plan) where
  -- a guess has 8 bytes
  guesses_eight : Eights (guesses_of a plan)
  unfolding guess
  guesses_eight r lt =
      let below : r < job_total a = omega (arith, guesses_total a plan) in
      ap length (guess_of a plan r [] below)
      ∙ length-take-le 8 (drop (1 + 8 * r) plan) (omega (arith, length-drop (1 + 8 * r) plan))

  -- the plan is its first byte, its guesses and the rest
  plan_parts : plan ≡ get_or plan 0 0 ∷ (each (guesses_of a plan) (λ store. store) ++ drop (1 + 8 * job_total a) plan)
  unfolding guesses_of round_numbers up_to
  plan_parts =
      let n : ℕ = 8 * job_total a in
      let one : 1 + 8 * 0 ≡ 1 = omega arith in
      drop-cons plan 0 0 (omega arith)
      ∙ ap (λ (l : List ℕ). get_or plan 0 0 ∷ l)
      (sym (take-append-drop n (drop 1 plan))
      ∙ ap (λ (l : List ℕ). take n (drop 1 plan) ++ l) (drop-drop n 1 plan)
      ∙ ap (λ (l : List ℕ). l ++ drop (1 + n) plan) (ap (λ (k : ℕ). take n (drop k plan)) (sym one) ∙ sym (guesses_stand plan (job_total a) 0)))

-- the plan is written from its guesses and the marks of its run, which are whole
pub record PlanBack (a : Accepted) (plan : Plan) (all : JobRuns) : Type 0 where
  pub is_written : plan ≡ written a (guesses_of a plan) (marks_of all)
  pub total : length (guesses_of a plan) ≡ job_total a
  pub eights : Eights (guesses_of a plan)
  pub full : length (marks_of all) ≡ job_total a
  pub whole : AllWhole a 0 (marks_of all) (guesses_of a plan)

-- what a plan's run says of the plan's parts
record Parts (a : Accepted) (plan : Plan) (all : JobRuns) : Type 0 where
  first : get_or plan 0 0 ≡ job_total a
  long : 1 + 8 * job_total a ≤ length plan
  jobs : run_jobs a plan (map job (from 0 (job_total a))) (run_start a plan) ≡ passed all
  last : all.running.offset ≡ length plan

plan_says : (a : Accepted) (plan : Plan) {all : JobRuns} → run_plan a plan ≡ passed all → Parts a plan all
unfolding run_plan
plan_says a plan {all} e =
    let first = then_passed (require (ltb 0 (length plan) && eqb (get_or plan 0 0) (job_total a)) 40 0) _ e in
    let second = then_passed (require (leb (1 + 8 * job_total a) (length plan)) 40 (length plan)) _ first.2 in
    let jobs = bind_passed (run_jobs a plan (job_numbers a) (run_start a plan)) _ second.2 in
    let last = then_passed (require (eqb jobs.0.running.offset (length plan)) 40 jobs.0.running.offset) _ jobs.2 in
    subst (Parts a plan) (passed_same last.2)
    (record {
      first = eqb-true _ _ (and_both (ltb 0 (length plan)) _ (test_holds _ (require_passed _ 40 0 first.1))).1;
      long = leb-true _ _ (test_holds _ (require_passed _ 40 (length plan) second.1));
      jobs = ap (λ (xs : List Job). run_jobs a plan xs (run_start a plan)) (sym (numbers_from a (job_total a) refl)) ∙ jobs.1;
      last = eqb-true _ _ (test_holds _ (require_passed _ 40 _ last.1));
    })

module _ {a : Accepted} (ok : IsAccepted a) (plan : Plan) {all : JobRuns} (e : run_plan a plan ≡ passed all) where
  -- a plan that runs is written from its guesses and a history of whole jobs
  pub plan_read : PlanBack a plan all
  unfolding written run_start guesses_of
  plan_read =
      let parts = plan_says a plan e in
      let back = jobs_read ok plan (job_total a) 0 (run_start a plan) (omega arith) parts.jobs in
      let h : List ℕ = each (marks_of all) marks_bytes in
      let ends = back.bytes ∙ ap (λ (k : ℕ). h ++ drop k plan) parts.last ∙ ap (λ (l : List ℕ). h ++ l) (drop-length plan) ∙ append-nil h in
      record {
        is_written =
            plan_parts a plan parts.long
            ∙ ap (λ (k : ℕ). k ∷ (each (guesses_of a plan) (λ store. store) ++ drop (1 + 8 * job_total a) plan)) parts.first
            ∙ ap (λ (l : List ℕ). job_total a ∷ (each (guesses_of a plan) (λ store. store) ++ l)) ends;
        total = guesses_total a plan;
        eights = guesses_eight a plan parts.long;
        full = back.full;
        whole = back.whole;
      }

  -- and its run is that history read by columns
  pub plan_run_is : all ≡ columns_run a 0 (marks_of all) (guessed a (guesses_of a plan))
  plan_run_is =
      let back = plan_read in
      passed_same
      (sym e ∙ ap (run_plan a) back.is_written
      ∙ plan_runs ok (guesses_of a plan) (marks_of all) back.total back.eights back.full back.whole)
