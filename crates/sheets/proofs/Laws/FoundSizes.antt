-- Sizes behind the lines of a failing order: its bytes are below 128, a job has at most 16 steps in a plan's run, and
-- their rounds are below the number of jobs.
-- Assumes nothing.
use Rattle.std.specs.Prelude.{◌≡◌, refl, Bool, ◌&&◌, get_or, leb, ltb}
use Rattle.std.proofs.Math.Path.{ap, subst}
use Prim.Native.Nat.{ℕ, zero, suc, ◌+◌, ◌*◌, ◌/◌, ◌≤◌, ◌<◌}
use native.Mathlib.Omega.{arith}
use Rattle.std.proofs.Math.Bool.{true, false}
use mathlib.Core.List.{List, [], ◌∷◌}
use Rattle.std.proofs.Math.Option.{Option, none, some, bind}
use Rattle.std.proofs.Math.ListN.{length}
use Rattle.std.proofs.Math.Dec.{eqb}
use Rattle.taskfile.specs.Chains.{most_instructions}
use Rattle.notation.specs.Checked.{Checked, passed, require}
use Rattle.notation.specs.Laws.CheckedLaws.{passed_same, bind_passed, then_passed}
use Rattle.std.specs.Prelude.{if◌then◌else◌}
use Rattle.notation.specs.Laws.QuantifierLaws.{map_length}
use Rattle.notation.specs.Ordered.{Every}
use Rattle.timing.specs.declared.Job.{Job}
use Rattle.timing.specs.Accepted.{Accepted}
use Rattle.timing.specs.Code.IsAccepted.{IsAccepted}
use Rattle.timing.proofs.Laws.BaseLaws.{base_small}
use Rattle.timing.specs.Relations.{IsJob, job_numbers}
use Rattle.machine.specs.declared.Effect.{Effect}
use Rattle.machine.specs.declared.Local.{Local}
use Rattle.machine.specs.Instructions.{fresh}
use Rattle.order.specs.Code.Invariant.{Invariant}
use Rattle.order.proofs.Laws.StepLaws.{good_turn, step_says, step_keeps}
use Rattle.order.specs.Orders.{step, run}
use Rattle.order.specs.States.{State}
use Rattle.plan.specs.declared.Round.{Round}
use Rattle.plan.specs.Legality.{steps_of, rounds_of}
use Rattle.plan.specs.Plans.{Legal}
use Rattle.plan.specs.Runs as runs
use Rattle.plan.specs.Runs.{Plan, Step, RunState, JobRun, JobRuns, job_total, first_round, run_job, run_jobs, run_start, run_plan}
use Rattle.matching.proofs.Laws.FromPlan.LegalLaws.{legal_run_lem}
use Rattle.matching.proofs.Laws.FromPlan.RunLaws.{Climbs, job_climbs}

-- ---- the bytes of an order

-- a step's byte is below 128: there are at most 8 tasks
step_small : {a : Accepted} → IsAccepted a → {s : State} → Invariant a s → (byte : ℕ) {after : State}
    → step a s byte ≡ some after → byte < 128
step_small {a} ok {s} inv byte e =
    let made = step_says a s byte e in
    let good = good_turn ok inv (byte / 16) made.due in
    omega (arith, good.1, base_small ok made.turn.frame.job good.0.running.job)

-- so each byte of an order is
pub run_small : {a : Accepted} → IsAccepted a → {s : State} → Invariant a s → (bytes : List ℕ) {after : State}
    → run a s bytes ≡ some after → Every (λ byte. byte < 128) bytes
unfolding run bind
run_small {a} ok {s} inv [] e = tt
run_small {a} ok {s} inv (byte ∷ bytes) {after} e = go (step a s byte) refl e (λ next kept h. run_small ok kept bytes h)
  where
    go : (o : Option State) → step a s byte ≡ o → bind o (λ next. run a next bytes) ≡ some after
        → ((next : State) → Invariant a next → run a next bytes ≡ some after → Every (λ byte. byte < 128) bytes)
        → (byte < 128) × Every (λ byte. byte < 128) bytes
    go none one h later = absurd (let z : ◌≡◌ {A = ℕ} 0 1 = cc in omega arith)
    go (some next) one h later = (step_small ok inv byte one, later next (step_keeps ok inv byte one) h)

-- ---- the steps of a job

-- a step before others is one more
one_more_lem : (step : Step) (rest : JobRun) {run : JobRun}
    → ◌≡◌ {A = Checked ℕ JobRun} (passed (record { steps = step ∷ rest.steps; running = rest.running })) (passed run)
    → suc (length rest.steps) ≡ length run.steps
one_more_lem step rest e = ap (λ (run : JobRun). length run.steps) (passed_same {P = ℕ} e)

module _ (a : Accepted) (plan : Plan) where
  -- nothing more after an End, and the job's further steps otherwise
  onward_few : (ended : Bool) (next : RunState) (further : Checked ℕ JobRun) (left : ℕ) {rest : JobRun}
      → (further ≡ passed rest → length rest.steps ≤ left)
      → (if ended then passed (record { steps = []; running = next }) else further) ≡ passed rest
      → length rest.steps ≤ left
  onward_few true next further left later e =
      omega (arith, ap (λ (run : JobRun). length run.steps) (passed_same {P = ℕ} e))
  onward_few false next further left later e = later e

  job_few : (x : Job) (left : ℕ) (local : Local) (previous : Round) (running : RunState) {run : JobRun}
      → run_job a plan x left local previous running ≡ passed run → length run.steps ≤ left
  unfolding run_job
  job_few x zero local previous running e =
      omega (arith, ap (λ (run : JobRun). length run.steps) (passed_same {P = ℕ} e))
  job_few x (suc left) local previous running {run} e =
      let effect : Effect = runs.step_effect a plan x local running in
      let step = runs.step_made a plan x running effect in
      let next : RunState = runs.running_after plan x running effect in
      let further = run_job a plan x left effect.local step.round next in
      let onward = if effect.ended then passed (record { steps = []; running = next }) else further in
      let checks = then_passed (runs.step_bytes a plan x local previous running.offset) _ e in
      let after = bind_passed onward
      (λ rest. passed (record { steps = step ∷ rest.steps; running = rest.running })) checks.2 in
      let rest = onward_few effect.ended next further left
      (λ h. job_few x left effect.local step.round next h) after.1 in
      omega (arith, rest, one_more_lem step after.0 after.2)

  -- "1 to 16 instructions in a body": a job has at most 16 steps
  abbrev Short : List Step → Type 0
  Short steps = length steps ≤ 16

  jobs_short : (xs : List Job) (running : RunState) {all : JobRuns} → run_jobs a plan xs running ≡ passed all
      → Every Short all.steps
  unfolding run_jobs
  jobs_short [] running e = subst (λ (all : JobRuns). Every Short all.steps) (passed_same {P = ℕ} e) tt
  jobs_short (x ∷ xs) running e =
      let first = bind_passed (run_job a plan x most_instructions fresh first_round running) _ e in
      let second = bind_passed (run_jobs a plan xs first.0.running) _ first.2 in
      subst (λ (all : JobRuns). Every Short all.steps) (passed_same {P = ℕ} second.2)
      (job_few x most_instructions fresh first_round running first.1, jobs_short xs first.0.running second.1)

  plan_short : {all : JobRuns} → run_plan a plan ≡ passed all → Every Short all.steps
  unfolding run_plan
  plan_short ran =
      let first = then_passed (require (ltb 0 (length plan) && eqb (get_or plan 0 0) (job_total a)) 40 0) _ ran in
      let second = then_passed (require (leb (1 + 8 * job_total a) (length plan)) 40 (length plan)) _ first.2 in
      let third = bind_passed (run_jobs a plan (job_numbers a) (run_start a plan)) _ second.2 in
      let offset : ℕ = third.0.running.offset in
      let last = then_passed (require (eqb offset (length plan)) 40 offset) _ third.2 in
      subst (λ (all : JobRuns). Every Short all.steps) (passed_same {P = ℕ} last.2)
      (jobs_short (job_numbers a) (run_start a plan) third.1)

  -- ---- the rounds of a job

  -- the steps of a job that is not there are none
  short_at : (all : List (List Step)) (k : ℕ) → Every Short all → Short (get_or all k [])
  short_at [] k h = omega arith
  short_at (steps ∷ all) zero h = h.0
  short_at (steps ∷ all) (suc k) h = short_at all k h.1

  climbs_below : (k : ℕ) (p : Round) (rs : List Round) → Climbs k p rs → Every (λ r. r.0 < k) rs
  climbs_below k p [] h = tt
  climbs_below k p (r ∷ rs) h = (h.1, climbs_below k r rs h.2)

  module _ {all : JobRuns} (legal : Legal a plan all) where
    pub rounds_few : (x : Job) → length (rounds_of all x) ≤ 16
    unfolding rounds_of steps_of
    rounds_few x =
        omega (
          arith,
          map_length (λ (step : Step). step.round) (get_or all.steps x.0 []),
          short_at all.steps x.0 (plan_short (legal_run_lem a plan legal).0),
        )

    pub rounds_below : (x : Job) → IsJob a x → Every (λ r. r.0 < job_total a) (rounds_of all x)
    rounds_below x isJob =
        climbs_below (job_total a) first_round (rounds_of all x)
        (job_climbs a plan (legal_run_lem a plan legal).0 x isJob)
