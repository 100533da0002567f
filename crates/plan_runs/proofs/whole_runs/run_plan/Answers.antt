-- `plan_runs::whole_runs::run_plan` meets its contract.
-- Assumes nothing.
use native.Mathlib.Omega.{arith}
use mathlib.Core.Path.{refl}
use Rattle.std.proofs.lemmas.Result.{err_from_is_err_and}
use Rattle.plan_runs.specs.Laws.PlanRunLaws.{ran_empty, ran_other, ran_short, jobs_out, left_over, plan_ran}
use Rattle.plan_runs.proofs.whole_runs.run_plan.Goals as goal
use Rattle.plan_runs.proofs.whole_runs.run_plan.Goals.{then-plan-eq0-via-then-plan-eq0, then-plan-eq0-via-else-plan-eq0+then-plan-k}

pub returns-then-plan-eq0 : goal.returns-then-plan-eq0
returns-then-plan-eq0 c =
    rw c.at.ensures
    (elim c.then-plan-eq0.branch [
      | then-plan-eq0-via-then-plan-eq0 w ↦ ran_empty _ _ _ _ (omega arith)
      | then-plan-eq0-via-else-plan-eq0+then-plan-k w ↦ ran_other _ _ _ _ (λ e. omega arith)
    ])

pub returns-then-plan-from : goal.returns-then-plan-from
returns-then-plan-from c =
    rw c.at-then-plan-from.ensures (ran_short _ _ _ _ (λ e. omega arith) (omega arith) (omega arith))

pub returns-in_err-ran : goal.returns-in_err-ran
returns-in_err-ran c =
    let p = err_from_is_err_and c.from_residual.result c.from_residual.ensures.1 in
    rw (p.1, p.2)
    (jobs_out _ _ _ _ c.requires (λ e. omega arith) (omega arith) (omega arith) c.copy_guesses.ensures
    c.in_err-ran.ensures refl)

pub returns-then-ran-plan : goal.returns-then-ran-plan
returns-then-ran-plan c =
    rw c.at-then-ran-plan.ensures
    (left_over _ _ _ _ c.requires (λ e. omega arith) (omega arith) (omega arith) c.copy_guesses.ensures
    c.in_ok-ran.ensures refl (λ e. omega arith))

pub returns : goal.returns
returns c =
    plan_ran _ _ _ _ c.requires (λ e. omega arith) (omega arith) (omega arith) c.copy_guesses.ensures
    c.in_ok-ran.ensures refl (omega arith)
