-- What an accepted conversion says, and what the two make of a complete order and of a legal plan: each turns into the
-- other, with the same end, and back into the same bytes.
-- Assumes nothing.
use Rattle.std.specs.Prelude.{◌≡◌, ℕ}
use Rattle.std.proofs.Math.Path.{refl, ap}
use Rattle.std.proofs.Common.{sym, ◌∙◌}
use mathlib.Core.List.{List}
use Rattle.notation.specs.Checked.{passed, ◌>>=◌}
use Rattle.notation.specs.Laws.CheckedLaws.{passed_same, bind_passed}
use Rattle.timing.specs.Accepted.{Accepted}
use Rattle.timing.specs.Code.IsAccepted.{IsAccepted}
use Rattle.machine.specs.declared.End.{End}
use Rattle.order.proofs.Laws.CompleteLaws.{complete_ends, replay_complete}
use Rattle.order.specs.Orders.{OrderEnds}
use Rattle.order.specs.Replay.{replay}
use Rattle.plan.specs.Plans.{legal_run, PlanEnds}
use Rattle.plan.specs.Runs.{Plan}
use Rattle.matching.specs.Conversions.{plan_of, order_to_plan, order_of, plan_to_order}
use Rattle.matching.proofs.Laws.FromOrder.OrderPlanned.{runs_of, order_planned}
use Rattle.matching.proofs.Laws.FromPlan.PlanOrdered.{planned_order_lem}
use Rattle.machine.specs.Buffers.{Written}

-- what a conversion passes on: these bytes, with this end
abbrev writes : End → List ℕ → Written
writes e bytes = record { ending = e; bytes = bytes }

writes_same : {e f : End} {bs cs : List ℕ} → writes e bs ≡ writes f cs → (e ≡ f) × (bs ≡ cs)
writes_same same = (ap (λ (w : Written). w.ending) same, ap (λ (w : Written). w.bytes) same)

module _ {a : Accepted} (ok : IsAccepted a) where
  -- ---- from an order

  -- an order that turns into a plan is complete, and ends so
  pub order_ends : (order : List ℕ) {plan : Plan} {e : End} → order_to_plan a order ≡ passed (writes e plan)
      → OrderEnds a order e × (plan_of a order ≡ plan)
  unfolding order_to_plan
  order_ends order h =
      let made = bind_passed (replay a order) _ h in
      let same = writes_same (passed_same made.2) in
      let full = replay_complete ok order (made.1 ∙ ap passed same.0) in
      (record { after = full.0; complete = full.1; ends = full.2 }, same.1)

  -- and a complete order turns into its plan
  pub order_turns : {order : List ℕ} {e : End} → OrderEnds a order e
      → order_to_plan a order ≡ passed (writes e (plan_of a order))
  unfolding order_to_plan ◌>>=◌
  order_turns full = rw (complete_ends ok full.complete ∙ ap passed full.ends) refl

  -- which is legal and ends as the order does
  pub order_legal : {order : List ℕ} {e : End} → OrderEnds a order e → PlanEnds a (plan_of a order) e
  order_legal {order} full =
      let planned = order_planned ok full.complete in
      record { runs = runs_of a order; legal = planned.legal; ends = planned.ends ∙ full.ends }

  -- ---- from a plan

  -- a plan that turns into an order is legal, and ends so
  pub plan_ends : (plan : Plan) {order : List ℕ} {e : End} → plan_to_order a plan ≡ passed (writes e order)
      → (legal : PlanEnds a plan e) × (order_of a legal.runs ≡ order)
  unfolding plan_to_order
  plan_ends plan h =
      let made = bind_passed (legal_run a plan) _ h in
      let same = writes_same (passed_same made.2) in
      (record { runs = made.0; legal = made.1; ends = same.0 }, same.1)

  -- and a legal plan turns into its order
  pub plan_turns : (plan : Plan) {e : End} → (legal : PlanEnds a plan e)
      → plan_to_order a plan ≡ passed (writes e (order_of a legal.runs))
  unfolding plan_to_order ◌>>=◌
  plan_turns plan legal =
      rw legal.legal (ap (λ (f : End). passed (writes f (order_of a legal.runs))) legal.ends)

  -- which is complete and ends as the plan does
  pub plan_complete : (plan : Plan) {e : End} → (legal : PlanEnds a plan e) → OrderEnds a (order_of a legal.runs) e
  plan_complete plan legal =
      let ordered = planned_order_lem ok plan legal.legal in
      record { after = ordered.0; complete = ordered.1; ends = sym ordered.2 ∙ legal.ends }

  -- ---- there and back

  pub order_back : {order : List ℕ} {e : End} → OrderEnds a order e
      → plan_to_order a (plan_of a order) ≡ passed (writes e order)
  unfolding order_legal
  order_back {order} {e} full =
      plan_turns (plan_of a order) (order_legal full)
      ∙ ap (λ (bytes : List ℕ). passed (writes e bytes)) (order_planned ok full.complete).back

  pub plan_back : (plan : Plan) {e : End} → (legal : PlanEnds a plan e)
      → order_to_plan a (order_of a legal.runs) ≡ passed (writes e plan)
  plan_back plan {e} legal =
      order_turns (plan_complete plan legal)
      ∙ ap (λ (bytes : List ℕ). passed (writes e bytes)) (planned_order_lem ok plan legal.legal).3
