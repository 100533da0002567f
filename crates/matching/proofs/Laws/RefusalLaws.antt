-- Every refusal of an order or a plan has a number of document 01, so number 0 says that it was accepted.
-- Assumes nothing.
use Rattle.std.specs.Prelude.{ℕ, suc, List, [], ◌∷◌}
use Rattle.std.proofs.Common.{arith}
use Rattle.notation.specs.Checked.{require, given}
use Rattle.notation.specs.Laws.NumberedLaws.{Numbered, none_asked, bind_numbered, then_numbered, require_numbered, given_numbered}
use Rattle.timing.specs.Accepted.{Accepted}
use Rattle.order.specs.Replay.{step_at, replay_from, replay}
use Rattle.order.specs.States.{State}
use Rattle.plan.proofs.Laws.PlanRefusals.{legal_numbered}
use Rattle.plan.specs.Plans.{legal_run}
use Rattle.plan.specs.Runs.{Plan}
use Rattle.matching.specs.Conversions.{order_to_plan, plan_to_order}

-- ---- orders: 30 to 34

step_numbered : (a : Accepted) (s : State) (index byte : ℕ) → Numbered (step_at a s index byte)
unfolding step_at
step_numbered a s index byte =
    then_numbered (require _ 33 index) (require_numbered _ 33 index (omega arith))
    (bind_numbered (given _ 30 index) (given_numbered _ 30 index (omega arith))
    (λ turn. then_numbered (require _ 34 index) (require_numbered _ 34 index (omega arith)) none_asked))

replay_from_numbered : (a : Accepted) (bytes : List ℕ) (s : State) (index : ℕ) → Numbered (replay_from a s index bytes)
unfolding replay_from
replay_from_numbered a [] s index = then_numbered (require _ 31 index) (require_numbered _ 31 index (omega arith)) none_asked
replay_from_numbered a (byte ∷ bytes) s index =
    then_numbered (require _ 32 index) (require_numbered _ 32 index (omega arith))
    (bind_numbered (step_at a s index byte) (step_numbered a s index byte)
    (λ next. replay_from_numbered a bytes next (suc index)))

pub replay_numbered : (a : Accepted) (order : List ℕ) → Numbered (replay a order)
unfolding replay
replay_numbered a order = bind_numbered (replay_from a _ 0 order) (replay_from_numbered a order _ 0) (λ s. none_asked)

pub order_numbered : (a : Accepted) (order : List ℕ) → Numbered (order_to_plan a order)
unfolding order_to_plan
order_numbered a order = bind_numbered (replay a order) (replay_numbered a order) (λ e. none_asked)

-- ---- plans: 40 to 45

pub plan_numbered : (a : Accepted) (plan : Plan) → Numbered (plan_to_order a plan)
unfolding plan_to_order
plan_numbered a plan = bind_numbered (legal_run a plan) (legal_numbered a plan) (λ runs. none_asked)
