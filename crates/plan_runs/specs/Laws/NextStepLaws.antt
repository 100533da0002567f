-- One step of a job's run, by what its bytes come to and by whether it ends the job.
-- Assumes nothing.
use Rattle.std.specs.Prelude.{◌≡◌, ℕ, suc, true, false, List, [], ◌∷◌, ◌++◌}
use Rattle.std.proofs.Math.Path.{refl}
use Rattle.std.proofs.Common.{sym, ap, append_assoc}
use Rattle.notation.specs.Checked.{Checked, refused, passed, ◌>>=◌, ◌>>◌}
use Rattle.timing.specs.declared.Job.{Job}
use Rattle.timing.specs.Accepted.{Accepted}
use Rattle.machine.specs.declared.Local.{Local}
use Rattle.machine.specs.declared.Effect.{Effect}
use Rattle.plan.specs.declared.Round.{Round}
use Rattle.plan.specs.Runs.{Plan, Step, RunState, JobRun, round_at, step_bytes, step_effect, step_made, running_after, run_job}

-- ---- steps before others

-- a run after steps that were made before it
unfoldable pub after_steps : List Step → Checked ℕ JobRun → Checked ℕ JobRun
after_steps made (refused number place) = refused number place
after_steps made (passed run) = passed (record { steps = made ++ run.steps; running = run.running })

-- none, and some after others
pub made_none : (c : Checked ℕ JobRun) → c ≡ after_steps [] c
unfolding after_steps
made_none (refused number place) = refl
made_none (passed run) = refl

pub made_more : (made more : List Step) (c : Checked ℕ JobRun)
    → after_steps made (after_steps more c) ≡ after_steps (made ++ more) c
unfolding after_steps
made_more made more (refused number place) = refl
made_more made more (passed run) =
    ap (λ (l : List Step). passed (record { steps = l; running = run.running }))
    (sym (append_assoc made more run.steps))

-- ---- one step

module _ (a : Accepted) (plan : Plan) (x : Job) (left : ℕ) (local : Local) (previous : Round)
    (running : RunState) where
  pub step_refused : {number place : ℕ} → step_bytes a plan x local previous running.offset ≡ refused number place
      → run_job a plan x (suc left) local previous running ≡ refused number place
  unfolding run_job ◌>>◌
  step_refused e = rw e refl

  module _ (passes : step_bytes a plan x local previous running.offset ≡ passed tt) {effect : Effect}
      (is : step_effect a plan x local running ≡ effect) where
    pub step_ended_lem : effect.ended ≡ true
        → run_job a plan x (suc left) local previous running
        ≡ passed (record {
          steps = step_made a plan x running effect ∷ [];
          running = running_after plan x running effect;
        })
    unfolding run_job ◌>>◌ ◌>>=◌
    step_ended_lem ends = rw (passes, is, ends) refl

    rest_after : (c : Checked ℕ JobRun) (made : Step)
        → ◌>>=◌ c (λ rest. passed (record { steps = made ∷ rest.steps; running = rest.running }))
        ≡ after_steps (made ∷ []) c
    unfolding ◌>>=◌ after_steps
    rest_after (refused number place) made = refl
    rest_after (passed run) made = refl

    pub step_goes : effect.ended ≡ false
        → run_job a plan x (suc left) local previous running
        ≡ after_steps (step_made a plan x running effect ∷ [])
        (run_job a plan x left effect.local (round_at plan running.offset) (running_after plan x running effect))
    unfolding run_job ◌>>◌ step_made
    step_goes goes = rw (passes, is, goes) (rest_after _ _)
