-- `plan_runs::plan_steps::step_fault` meets its contract.
-- Assumes nothing.
use Rattle.std.proofs.Common.{ap}
use Rattle.std.proofs.Math.Bool.{not}
use native.Mathlib.Omega.{arith}
use Rattle.plan_runs.specs.Laws.StepLaws.{step_short, step_beyond, step_back, step_not_offered, step_good}
use Rattle.plan_runs.proofs.plan_steps.step_fault.Goals as goal
use Rattle.plan_runs.proofs.plan_steps.step_fault.Goals.{then-k-round-via-then-k-round, then-k-round-via-else-k-round+then-round-previous}

pub returns-then-plan-offset : goal.returns-then-plan-offset
returns-then-plan-offset c = rw c.at.ensures (step_short _ _ _ _ _ (omega arith))

pub returns-then-k-round : goal.returns-then-k-round
returns-then-k-round c =
    rw c.at-then-k-round.ensures
    (elim c.then-k-round.branch [
      | then-k-round-via-then-k-round w ↦ step_beyond _ _ _ _ _ (omega arith) (omega arith)
      | then-k-round-via-else-k-round+then-round-previous w ↦ step_back _ _ _ _ _ (omega arith) (omega arith)
    ])

pub returns-then-not-on_offer : goal.returns-then-not-on_offer
returns-then-not-on_offer c =
    rw c.at-then-not-on_offer.ensures
    (step_not_offered _ _ _ _ _ (omega arith) (omega arith) (omega arith) c.on_offer.ensures (ap not c.if-not-on_offer.true))

pub returns : goal.returns
returns c = step_good _ _ _ _ _ (omega arith) (omega arith) (omega arith) c.on_offer.ensures (ap not c.if-not-on_offer.false)
