-- The values of a plan's steps are below 16, where its run passed: each is on offer at its instruction.
-- Assumes nothing.
use Rattle.std.specs.Prelude.{◌≡◌, Bool, ◌&&◌, length, get_or, leb, ltb}
use Rattle.std.proofs.Math.Path.{subst}
use Prim.Native.Nat.{ℕ, zero, suc, ◌+◌, ◌*◌, ◌<◌}
use Rattle.std.proofs.Math.Bool.{true, false}
use mathlib.Core.List.{List, [], ◌∷◌}
use Rattle.std.proofs.Math.Dec.{eqb}
use Rattle.notation.specs.Checked.{Checked, passed, require}
use Rattle.notation.specs.Laws.CheckedLaws.{passed_same, bind_passed, then_passed, require_passed}
use Rattle.notation.specs.Laws.TestLaws.{test_holds}
use Rattle.std.specs.Prelude.{if◌then◌else◌}
use Rattle.notation.specs.Lists.{member}
use Rattle.notation.specs.Ordered.{Every}
use Rattle.taskfile.specs.Chains.{most_instructions}
use Rattle.taskfile.specs.Judgement.{instruction_of}
use Rattle.timing.specs.declared.Job.{Job}
use Rattle.timing.specs.Accepted.{Accepted}
use Rattle.timing.specs.Code.IsAccepted.{IsAccepted}
use Rattle.timing.specs.Relations.{job_at, job_numbers}
use Rattle.machine.specs.declared.Effect.{Effect}
use Rattle.machine.specs.declared.Local.{Local}
use Rattle.machine.specs.Instructions.{fresh, values}
use Rattle.matching.proofs.Laws.FromPlan.LegalLaws.{legal_run_lem}
use Rattle.matching.proofs.Laws.FromPlan.OfferedLaws.{job_offered}
use Rattle.plan.specs.declared.Round.{Round}
use Rattle.plan.specs.Plans.{Legal}
use Rattle.plan.specs.Runs as runs
use Rattle.plan.specs.Runs.{Plan, Step, RunState, JobRun, JobRuns, job_total, first_round, round_at, not_later}
use Rattle.plan.specs.Runs.{step_bytes_for, step_bytes, run_job, run_jobs, run_start, run_plan}

-- a step's value is below 16
abbrev pub Small : Step → Type 0
Small step = step.value < 16

module _ {a : Accepted} (ok : IsAccepted a) (plan : Plan) where
  -- a value that passed is on offer
  bytes_small : (x : Job) (local : Local) (previous : Round) (offset : ℕ) {u : Unit {0}}
      → step_bytes a plan x local previous offset ≡ passed u → get_or plan (offset + 1) 0 < 16
  unfolding step_bytes step_bytes_for
  bytes_small x local previous offset e =
      let first = then_passed (require (ltb (offset + 1) (length plan)) 40 (length plan)) _ e in
      let second = then_passed
      (require (ltb (round_at plan offset).0 (job_total a) && not_later previous (round_at plan offset)) 42 offset) _ first.2 in
      let offered = test_holds _ (require_passed
      (member (get_or plan (offset + 1) 0) (values (instruction_of a.table (job_at a x).task local.next))) 41 (offset + 1) second.2) in
      job_offered ok x local.next (get_or plan (offset + 1) 0) offered

  -- nothing more after an End, and the job's further steps otherwise
  onward_small : (ended : Bool) (next : RunState) (further : Checked ℕ JobRun) {rest : JobRun}
      → (further ≡ passed rest → Every Small rest.steps)
      → (if ended then passed (record { steps = []; running = next }) else further) ≡ passed rest
      → Every Small rest.steps
  onward_small true next further later e =
      subst (λ (run : JobRun). Every Small run.steps) (passed_same {P = ℕ} e) tt
  onward_small false next further later e = later e

  -- a step before others
  before_small : (step : Step) (rest : JobRun) {run : JobRun} → Small step → Every Small rest.steps
      → ◌≡◌ {A = Checked ℕ JobRun} (passed (record { steps = step ∷ rest.steps; running = rest.running })) (passed run)
      → Every Small run.steps
  before_small step rest small others e =
      subst (λ (run : JobRun). Every Small run.steps) (passed_same {P = ℕ} e) (small, others)

  job_small : (x : Job) (left : ℕ) (local : Local) (previous : Round) (running : RunState) {run : JobRun}
      → run_job a plan x left local previous running ≡ passed run → Every Small run.steps
  unfolding run_job runs.step_made
  job_small x zero local previous running e =
      subst (λ (run : JobRun). Every Small run.steps) (passed_same {P = ℕ} e) tt
  job_small x (suc left) local previous running {run} e =
      let effect : Effect = runs.step_effect a plan x local running in
      let step = runs.step_made a plan x running effect in
      let next : RunState = runs.running_after plan x running effect in
      let further = run_job a plan x left effect.local step.round next in
      let onward = if effect.ended then passed (record { steps = []; running = next }) else further in
      let checks = then_passed (step_bytes a plan x local previous running.offset) _ e in
      let after = bind_passed onward
      (λ rest. passed (record { steps = step ∷ rest.steps; running = rest.running })) checks.2 in
      let rest = onward_small effect.ended next further
      (λ h. job_small x left effect.local step.round next h) after.1 in
      before_small step after.0 (bytes_small x local previous running.offset checks.1) rest after.2

  jobs_small : (xs : List Job) (running : RunState) {all : JobRuns}
      → run_jobs a plan xs running ≡ passed all → Every (Every Small) all.steps
  unfolding run_jobs
  jobs_small [] running e =
      subst (λ (all : JobRuns). Every (Every Small) all.steps) (passed_same {P = ℕ} e) tt
  jobs_small (x ∷ xs) running e =
      let first = bind_passed (run_job a plan x most_instructions fresh first_round running) _ e in
      let second = bind_passed (run_jobs a plan xs first.0.running) _ first.2 in
      let one = job_small x most_instructions fresh first_round running first.1 in
      let others = jobs_small xs first.0.running second.1 in
      subst (λ (all : JobRuns). Every (Every Small) all.steps) (passed_same {P = ℕ} second.2) (one, others)

  plan_small : {all : JobRuns} → run_plan a plan ≡ passed all → Every (Every Small) all.steps
  unfolding run_plan
  plan_small e =
      let first = then_passed (require (ltb 0 (length plan) && eqb (get_or plan 0 0) (job_total a)) 40 0) _ e in
      let second = then_passed (require (leb (1 + 8 * job_total a) (length plan)) 40 (length plan)) _ first.2 in
      let jobs = bind_passed (run_jobs a plan (job_numbers a) (run_start a plan)) _ second.2 in
      let ending = jobs.0.running.offset in
      let last = then_passed (require (eqb ending (length plan)) 40 ending) _ jobs.2 in
      subst (λ (all : JobRuns). Every (Every Small) all.steps) (passed_same {P = ℕ} last.2)
      (jobs_small (job_numbers a) (run_start a plan) jobs.1)

  -- the values of a legal plan's steps
  pub steps_small : {all : JobRuns} → Legal a plan all → Every (Every Small) all.steps
  steps_small legal = plan_small (legal_run_lem a plan legal).0
