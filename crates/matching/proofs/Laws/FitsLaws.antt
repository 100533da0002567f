-- A legal plan has at most 1,281 bytes: its first byte, 8 for each of at most 32 guesses, and two for each of at most
-- 16 steps of a job. Bytes that fit a buffer stand whole at its beginning, and no zero fill cuts them.
-- Assumes nothing.
use Rattle.std.specs.Prelude.{◌≡◌, Bool, ◌&&◌, get_or, take, drop, replicate, leb, ltb}
use Rattle.std.proofs.Math.Path.{ap}
use Rattle.std.proofs.Common.{◌∙◌, arith, take-take}
use Prim.Native.Nat.{ℕ, zero, suc, ◌+◌, ◌*◌, ◌≤◌}
use Rattle.std.proofs.Math.Bool.{true, false}
use mathlib.Core.List.{List, [], ◌∷◌, ◌++◌}
use Rattle.std.proofs.Math.ListN.{length}
use Rattle.std.proofs.Math.Dec.{eqb}
use Rattle.std.proofs.lemmas.List.{take-append-le}
use Rattle.std.proofs.Math.Seq.{take-append_seam}
use borrow.Author.Tests.{eqb-true}
use Rattle.taskfile.specs.Chains.{most_instructions}
use Rattle.notation.specs.Checked.{Checked, passed, require}
use Rattle.notation.specs.Laws.CheckedLaws.{passed_same, bind_passed, then_passed, require_passed}
use Rattle.std.specs.Prelude.{if◌then◌else◌}
use Rattle.notation.specs.Lists.{padded}
use Rattle.notation.specs.Laws.PaddedLaws.{padded_length}
use Rattle.notation.specs.Laws.TestLaws.{test_holds}
use Rattle.timing.specs.declared.Job.{Job}
use Rattle.timing.specs.Accepted.{Accepted}
use Rattle.timing.specs.Code.IsAccepted.{IsAccepted}
use Rattle.timing.proofs.Laws.JobFacts.{jobs_few}
use Rattle.timing.proofs.Laws.JobNumberLaws.{jobs_length}
use Rattle.timing.specs.Relations.{job_numbers}
use Rattle.machine.specs.declared.Effect.{Effect}
use Rattle.machine.specs.declared.Local.{Local}
use Rattle.machine.specs.Buffers.{filled, plan_room}
use Rattle.machine.specs.Instructions.{fresh}
use Rattle.plan.specs.Plans.{Legal}
use Rattle.plan.specs.declared.Round.{Round}
use Rattle.plan.specs.Runs as runs
use Rattle.plan.specs.Runs.{Plan, Step, RunState, JobRun, JobRuns, job_total, first_round, run_job, run_jobs, run_start, run_plan}
use Rattle.matching.proofs.Laws.FromPlan.LegalLaws.{legal_run_lem}

-- ---- how far a run reads

-- how far it has come after a job's steps, and after those of all jobs
abbrev job_end : JobRun → ℕ
job_end run = run.running.offset

abbrev jobs_end : JobRuns → ℕ
jobs_end all = all.running.offset

-- a step before others comes as far as they do
before_reads : (step : Step) (rest : JobRun) {run : JobRun}
    → ◌≡◌ {A = Checked ℕ JobRun} (passed (record { steps = step ∷ rest.steps; running = rest.running })) (passed run)
    → job_end rest ≡ job_end run
before_reads step rest e = ap job_end (passed_same {P = ℕ} e)

module _ (a : Accepted) (plan : Plan) where
  -- nothing more after an End, and the job's further steps otherwise
  onward_reads : (ended : Bool) (next : RunState) (further : Checked ℕ JobRun) (most : ℕ) {rest : JobRun}
      → (further ≡ passed rest → job_end rest ≤ next.offset + most)
      → (if ended then passed (record { steps = []; running = next }) else further) ≡ passed rest
      → job_end rest ≤ next.offset + most
  onward_reads true next further most later e = omega (arith, ap job_end (passed_same {P = ℕ} e))
  onward_reads false next further most later e = later e

  -- a step is two bytes
  job_reads : (x : Job) (left : ℕ) (local : Local) (previous : Round) (running : RunState) {run : JobRun}
      → run_job a plan x left local previous running ≡ passed run → job_end run ≤ running.offset + 2 * left
  unfolding run_job runs.running_after
  job_reads x zero local previous running e = omega (arith, ap job_end (passed_same {P = ℕ} e))
  job_reads x (suc left) local previous running {run} e =
      let effect : Effect = runs.step_effect a plan x local running in
      let step = runs.step_made a plan x running effect in
      let next : RunState = runs.running_after plan x running effect in
      let further = run_job a plan x left effect.local step.round next in
      let onward = if effect.ended then passed (record { steps = []; running = next }) else further in
      let checks = then_passed (runs.step_bytes a plan x local previous running.offset) _ e in
      let after = bind_passed onward
      (λ rest. passed (record { steps = step ∷ rest.steps; running = rest.running })) checks.2 in
      let rest = onward_reads effect.ended next further (2 * left)
      (λ h. job_reads x left effect.local step.round next h) after.1 in
      omega (arith, rest, before_reads step after.0 after.2)

  -- and a job has at most 16 steps
  jobs_read : (xs : List Job) (running : RunState) {all : JobRuns} → run_jobs a plan xs running ≡ passed all
      → jobs_end all ≤ running.offset + 2 * most_instructions * length xs
  unfolding run_jobs
  jobs_read [] running e = omega (arith, ap jobs_end (passed_same {P = ℕ} e))
  jobs_read (x ∷ xs) running e =
      let first = bind_passed (run_job a plan x most_instructions fresh first_round running) _ e in
      let second = bind_passed (run_jobs a plan xs first.0.running) _ first.2 in
      let one = job_reads x most_instructions fresh first_round running first.1 in
      let others = jobs_read xs first.0.running second.1 in
      omega (arith, one, others, ap jobs_end (passed_same {P = ℕ} second.2))

  -- a plan is read to its end
  plan_read : {all : JobRuns} → run_plan a plan ≡ passed all
      → length plan ≤ 1 + 8 * job_total a + 2 * most_instructions * job_total a
  unfolding run_plan run_start job_total
  plan_read e =
      let first = then_passed (require (ltb 0 (length plan) && eqb (get_or plan 0 0) (job_total a)) 40 0) _ e in
      let second = then_passed (require (leb (1 + 8 * job_total a) (length plan)) 40 (length plan)) _ first.2 in
      let jobs = bind_passed (run_jobs a plan (job_numbers a) (run_start a plan)) _ second.2 in
      let last = then_passed (require (eqb (jobs_end jobs.0) (length plan)) 40 (jobs_end jobs.0)) _ jobs.2 in
      let whole : jobs_end jobs.0 ≡ length plan = eqb-true _ _ (test_holds _ (require_passed _ 40 _ last.1)) in
      omega (arith, whole, jobs_read (job_numbers a) (run_start a plan) jobs.1, jobs_length a)

-- with at most 32 jobs
pub plan_fits : {a : Accepted} → IsAccepted a → (plan : Plan) {all : JobRuns} → Legal a plan all
    → length plan ≤ plan_room
unfolding job_total
plan_fits {a} ok plan legal = omega (arith, plan_read a plan (legal_run_lem a plan legal).0, jobs_few ok.is_timed)

-- ---- the zero fill

-- bytes that fit stand at the beginning of the buffer that they fill
pub fill_keeps : (room : ℕ) (bytes buffer : List ℕ) → length bytes ≤ room
    → take (length bytes) (filled room bytes buffer) ≡ bytes
unfolding filled padded
fill_keeps room bytes buffer fits =
    take-append-le (length bytes) (padded room 0 bytes) (drop room buffer) (omega (arith, padded_length room 0 bytes))
    ∙ take-take (length bytes) room (bytes ++ replicate room 0) fits
    ∙ take-append_seam bytes (replicate room 0)
