-- Every refusal of a plan has a number of document 01.
-- Assumes nothing.
use Prim.Native.Nat.{ℕ, zero, suc}
use Rattle.std.proofs.Common.{arith}
use mathlib.Core.List.{List, [], ◌∷◌}
use Rattle.notation.specs.Checked.{require, none_of, placed_by}
use Rattle.notation.specs.Laws.NumberedLaws.{Numbered, none_asked, bind_numbered, then_numbered, require_numbered}
use Rattle.notation.specs.Laws.NumberedLaws.{choice_numbered, none_of_numbered, placed_numbered}
use Rattle.timing.specs.Accepted.{Accepted}
use Rattle.timing.specs.declared.Job.{Job}
use Rattle.machine.specs.declared.Local.{Local}
use Rattle.plan.specs.declared.Round.{Round}
use Rattle.plan.specs.Legality.{legality}
use Rattle.plan.specs.Plans.{legal_run, check_plan}
use Rattle.plan.specs.Runs.{Plan, RunState, JobRuns, step_bytes_for, step_bytes, run_job, run_jobs, run_plan}

module _ (a : Accepted) (plan : Plan) where
  bytes_numbered : (x : Job) (local : Local) (previous : Round) (offset : ℕ)
      → Numbered (step_bytes a plan x local previous offset)
  unfolding step_bytes step_bytes_for
  bytes_numbered x local previous offset =
      then_numbered (require _ _ _) (require_numbered _ _ _ (omega arith))
      (then_numbered (require _ _ _) (require_numbered _ _ _ (omega arith))
      (require_numbered _ _ _ (omega arith)))

  job_numbered_lem : (x : Job) (left : ℕ) (local : Local) (previous : Round) (running : RunState)
      → Numbered (run_job a plan x left local previous running)
  unfolding run_job
  job_numbered_lem x zero local previous running = none_asked
  job_numbered_lem x (suc left) local previous running =
      then_numbered (step_bytes a plan x local previous running.offset) (bytes_numbered x local previous running.offset)
      (bind_numbered _ (choice_numbered _ none_asked (job_numbered_lem x left _ _ _)) (λ rest. none_asked))

  jobs_numbered : (xs : List Job) (running : RunState) → Numbered (run_jobs a plan xs running)
  unfolding run_jobs
  jobs_numbered [] running = none_asked
  jobs_numbered (x ∷ xs) running =
      bind_numbered (run_job a plan x _ _ _ running) (job_numbered_lem x _ _ _ running)
      (λ one. bind_numbered (run_jobs a plan xs one.running) (jobs_numbered xs one.running) (λ others. none_asked))

  run_numbered : Numbered (run_plan a plan)
  unfolding run_plan
  run_numbered =
      then_numbered (require _ 40 0) (require_numbered _ 40 0 (omega arith))
      (then_numbered (require _ 40 _) (require_numbered _ 40 _ (omega arith))
      (bind_numbered (run_jobs a plan _ _) (jobs_numbered _ _)
      (λ runs. then_numbered (require _ 40 _) (require_numbered _ 40 _ (omega arith)) none_asked)))

  pub legality_numbered : (runs : JobRuns) → Numbered (legality a plan runs)
  unfolding legality
  legality_numbered runs =
      then_numbered (placed_by _ (none_of _ _ _)) (placed_numbered _ _ (none_of_numbered _ _ _ (omega arith)))
      (then_numbered (placed_by _ (none_of _ _ _)) (placed_numbered _ _ (none_of_numbered _ _ _ (omega arith)))
      (placed_numbered _ _ (none_of_numbered _ _ _ (omega arith))))

  pub legal_numbered : Numbered (legal_run a plan)
  unfolding legal_run
  legal_numbered =
      bind_numbered (run_plan a plan) run_numbered
      (λ runs. then_numbered (legality a plan runs) (legality_numbered runs) none_asked)

  pub check_numbered : Numbered (check_plan a plan)
  unfolding check_plan
  check_numbered = bind_numbered (legal_run a plan) legal_numbered (λ runs. none_asked)
