-- What the entries of an accepted file answer, and what their buffers hold when one conversion's bytes are lent to the
-- other.
-- Assumes nothing.
use Rattle.std.specs.Prelude.{◌≡◌, refl, ◌↔◌, ℕ, ◌≤◌, List, [], length}
use Rattle.std.proofs.Math.Path.{ap}
use Rattle.std.proofs.Common.{◌∙◌, arith, le-leb}
use Rattle.notation.specs.Checked.{Checked, refused, passed}
use Rattle.notation.specs.Laws.CheckedLaws.{bind_goes, bind_passed, passed_same, require_holds}
use Rattle.taskfile.specs.Records.{File}
use Rattle.timing.specs.Accepted.{Accepted, accept}
use Rattle.timing.proofs.Laws.AcceptedLaws.{file_accepted}
use Rattle.machine.specs.Buffers.{Written, run_answer, unwritten, order_room, plan_room}
use Rattle.machine.specs.declared.End.{End}
use Rattle.order.proofs.Laws.CompleteLaws.{complete_ends, replay_complete}
use Rattle.order.specs.Orders.{OrderEnds}
use Rattle.order.specs.Replay.{replay, replayed, replay_answer}
use Rattle.plan.specs.Plans.{PlanEnds, legal_run, check_plan, checked, plan_answer}
use Rattle.plan.specs.Runs.{Plan}
use Rattle.matching.specs.ConversionEntries.{planned_order, order_to_plan_answer, ordered_plan, plan_to_order_answer, AnswersEnd, plan_left, order_left}
use Rattle.matching.specs.Conversions.{order_to_plan, plan_to_order}
use Rattle.matching.specs.Demand3.{OrderGives, PlanGives, Demand3}
use Rattle.matching.proofs.Laws.Demand3Laws.{demand3}
use Rattle.notation.specs.Laws.NumberedLaws.{Numbered, by_number}
use Rattle.matching.proofs.Laws.RefusalLaws.{replay_numbered, order_numbered, plan_numbered}
use Rattle.plan.proofs.Laws.PlanRefusals.{check_numbered}
use Rattle.matching.proofs.Laws.WrittenLaws.{plan_stands, order_stands}

-- ---- an answer with number 0

-- what passes is answered with its end
passed_answers : (c : Checked ℕ Written) {e : End} {bytes : List ℕ} → c ≡ passed (record { ending = e; bytes = bytes })
    → AnswersEnd (run_answer c) e
unfolding run_answer
passed_answers c made = rw made (record { number = refl; place = refl; store = refl; failed = refl })

-- and an answer with number 0 is that of what passed
answers_passed : (c : Checked ℕ Written) {e : End} → Numbered c → AnswersEnd (run_answer c) e
    → (bytes : List ℕ) × (c ≡ passed (record { ending = e; bytes = bytes }))
unfolding run_answer
answers_passed (refused number place) (by_number least) x = absurd (omega (arith, least, x.number))
answers_passed (passed w) numbered x =
    (w.bytes, λ i. passed (record { ending = record { store = x.store i; failed = x.failed i }; bytes = w.bytes }))

-- the same where nothing is written
ended_answers : (c : Checked ℕ End) {e : End} → c ≡ passed e → AnswersEnd (run_answer (unwritten c)) e
unfolding unwritten
ended_answers c {e} ends = passed_answers (unwritten c) {e = e} {bytes = []} (ap unwritten ends)

answers_ended : (c : Checked ℕ End) {e : End} → Numbered c → AnswersEnd (run_answer (unwritten c)) e → c ≡ passed e
unfolding unwritten run_answer
answers_ended (refused number place) (by_number least) x = absurd (omega (arith, least, x.number))
answers_ended (passed f) numbered x = λ i. passed (record { store = x.store i; failed = x.failed i })

module _ (f : File) {a : Accepted} (isAccepted : accept f ≡ passed a) where
  abbrev matches : Demand3 a
  matches = demand3 f _ isAccepted

  -- ---- the replay and the plan check

  replay_is : (order : List ℕ) → replayed f order ≡ replay a order
  unfolding replayed
  replay_is order = bind_goes _ isAccepted

  pub replay_answers : (order : List ℕ) (e : End) → AnswersEnd (replay_answer f order) e ↔ OrderEnds a order e
  unfolding replay_answer
  replay_answers order e = (
    λ x.
        let full = replay_complete (file_accepted f isAccepted) order
        (answers_ended (replay a order) (replay_numbered a order) (rw (replay_is order) at x)) in
        record { after = full.0; complete = full.1; ends = full.2 },
    λ full. ended_answers (replayed f order)
        (replay_is order ∙ complete_ends (file_accepted f isAccepted) full.complete ∙ ap passed full.ends),
  )

  check_is : (plan : Plan) → checked f plan ≡ check_plan a plan
  unfolding checked
  check_is plan = bind_goes _ isAccepted

  pub check_legal : (plan : Plan) (e : End) → check_plan a plan ≡ passed e → PlanEnds a plan e
  unfolding check_plan
  check_legal plan e h =
      let made = bind_passed (legal_run a plan) _ h in
      record { runs = made.0; legal = made.1; ends = passed_same made.2 }

  legal_check : (plan : Plan) (e : End) → PlanEnds a plan e → check_plan a plan ≡ passed e
  unfolding check_plan
  legal_check plan e legal = bind_goes _ legal.legal ∙ ap passed legal.ends

  pub check_answers : (plan : Plan) (e : End) → AnswersEnd (plan_answer f plan) e ↔ PlanEnds a plan e
  unfolding plan_answer
  check_answers plan e = (
    λ x. check_legal plan e (answers_ended (check_plan a plan) (check_numbered a plan) (rw (check_is plan) at x)),
    λ legal. ended_answers (checked f plan) (check_is plan ∙ legal_check plan e legal),
  )

  -- ---- from an order

  module _ (buffer : List ℕ) (fits : plan_room ≤ length buffer) where
    planned_is : (order : List ℕ) → planned_order f order buffer ≡ order_to_plan a order
    unfolding planned_order
    planned_is order = bind_goes _ isAccepted ∙ require_holds _ 20 0 (order_to_plan a order) (le-leb _ _ fits)

    -- an order that is accepted gives a plan
    order_gives : (order : List ℕ) (e : End) → AnswersEnd (order_to_plan_answer f order buffer) e
        → (plan : Plan) × OrderGives a order e plan
    unfolding order_to_plan_answer
    order_gives order e x = answers_passed (order_to_plan a order) (order_numbered a order) (rw (planned_is order) at x)

    gives_order : (order : List ℕ) (e : End) {plan : Plan} → OrderGives a order e plan
        → AnswersEnd (order_to_plan_answer f order buffer) e
    unfolding order_to_plan_answer
    gives_order order e made = passed_answers (planned_order f order buffer) (planned_is order ∙ made)

    pub order_answers : (order : List ℕ) (e : End)
        → AnswersEnd (order_to_plan_answer f order buffer) e ↔ OrderEnds a order e
    order_answers order e = (
      λ x. (matches.orders order e).0 (order_gives order e x),
      λ full. gives_order order e ((matches.orders order e).1 full).1,
    )

    left_plan : (order : List ℕ) (e : End) {plan : Plan} → OrderGives a order e plan → plan_left f order buffer ≡ plan
    unfolding plan_left
    left_plan order e made = plan_stands f isAccepted buffer order _ e fits made

  -- ---- from a plan

  module _ (buffer : List ℕ) (fits : order_room ≤ length buffer) where
    ordered_is : (plan : Plan) → ordered_plan f plan buffer ≡ plan_to_order a plan
    unfolding ordered_plan
    ordered_is plan = bind_goes _ isAccepted ∙ require_holds _ 20 0 (plan_to_order a plan) (le-leb _ _ fits)

    -- a plan that is accepted gives an order
    plan_gives : (plan : Plan) (e : End) → AnswersEnd (plan_to_order_answer f plan buffer) e
        → (order : List ℕ) × PlanGives a plan e order
    unfolding plan_to_order_answer
    plan_gives plan e x = answers_passed (plan_to_order a plan) (plan_numbered a plan) (rw (ordered_is plan) at x)

    gives_plan : (plan : Plan) (e : End) {order : List ℕ} → PlanGives a plan e order
        → AnswersEnd (plan_to_order_answer f plan buffer) e
    unfolding plan_to_order_answer
    gives_plan plan e made = passed_answers (ordered_plan f plan buffer) (ordered_is plan ∙ made)

    pub plan_answers : (plan : Plan) (e : End) → AnswersEnd (plan_to_order_answer f plan buffer) e ↔ PlanEnds a plan e
    plan_answers plan e = (
      λ x. (matches.plans plan e).0 (plan_gives plan e x),
      λ legal. gives_plan plan e ((matches.plans plan e).1 legal).1,
    )

    left_order : (plan : Plan) (e : End) {order : List ℕ} → PlanGives a plan e order → order_left f plan buffer ≡ order
    unfolding order_left
    left_order plan e made = order_stands f isAccepted buffer plan _ e fits made

  -- ---- there and back

  module _ (planBuffer orderBuffer : List ℕ) (planFits : plan_room ≤ length planBuffer)
      (orderFits : order_room ≤ length orderBuffer) where
    pub order_returns : (order : List ℕ) (e : End) → AnswersEnd (order_to_plan_answer f order planBuffer) e
        → AnswersEnd (plan_to_order_answer f (plan_left f order planBuffer) orderBuffer) e
        × (order_left f (plan_left f order planBuffer) orderBuffer ≡ order)
    order_returns order e x =
        let given = order_gives planBuffer planFits order e x in
        let back = matches.order_back order given.0 e given.1 in
        rw (left_plan planBuffer planFits order e given.1)
        (gives_plan orderBuffer orderFits given.0 e back, left_order orderBuffer orderFits given.0 e back)

    pub plan_returns : (plan : Plan) (e : End) → AnswersEnd (plan_to_order_answer f plan orderBuffer) e
        → AnswersEnd (order_to_plan_answer f (order_left f plan orderBuffer) planBuffer) e
        × (plan_left f (order_left f plan orderBuffer) planBuffer ≡ plan)
    plan_returns plan e x =
        let given = plan_gives orderBuffer orderFits plan e x in
        let back = matches.plan_back plan given.0 e given.1 in
        rw (left_order orderBuffer orderFits plan e given.1)
        (gives_order planBuffer planFits given.0 e back, left_plan planBuffer planFits given.0 e back)
