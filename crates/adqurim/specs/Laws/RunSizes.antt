-- The answers of the plan check and of both conversions have eight variables and 32 flags, whatever the input: a legal
-- plan ends as some complete order does, and that is answered by the replay.
-- Assumes nothing.
use Rattle.std.specs.Prelude.{◌≡◌, refl, ℕ, List, leb, length}
use Rattle.std.proofs.Common.{sym, ap, ◌∙◌}
use Rattle.notation.specs.Checked.{Checked, refused, passed, require}
use Rattle.notation.specs.Laws.CheckedLaws.{bind_passed, then_passed}
use Rattle.taskfile.specs.Records.{File}
use Rattle.timing.specs.Accepted.{Accepted, accept}
use Rattle.machine.specs.Buffers.{Written, run_answer, unwritten, order_room, plan_room}
use Rattle.machine.specs.Ends.{Flags, no_store, no_flags}
use Rattle.machine.specs.declared.End.{End}
use Rattle.order.specs.Orders.{OrderEnds}
use Rattle.plan.specs.Plans.{PlanEnds, check_plan, checked, plan_answer}
use Rattle.plan.specs.Runs.{Plan}
use Rattle.walk.proofs.Laws.SizeLaws.{Sized, replay_sized}
use Rattle.matching.specs.Conversions.{order_to_plan, plan_to_order}
use Rattle.matching.specs.ConversionEntries.{planned_order, order_to_plan_answer, ordered_plan, plan_to_order_answer}
use Rattle.matching.proofs.Laws.Demand3Laws.{demand3}
use Rattle.matching.proofs.Laws.EntryLaws.{replay_answers, check_legal}

-- ---- how an order or a plan ends

order_sized : (f : File) {a : Accepted} → accept f ≡ passed a → (order : List ℕ) (e : End) → OrderEnds a order e
    → Sized e.store e.failed
order_sized f isAccepted order e full =
    let x = (replay_answers f isAccepted order e).1 full in
    let sized = replay_sized f order in
    record {
      eight = ap length (sym x.store) ∙ sized.eight;
      each = ap (λ (flags : Flags). length flags) (sym x.failed) ∙ sized.each;
    }

plan_end_sized : (f : File) {a : Accepted} → accept f ≡ passed a → (plan : Plan) (e : End) → PlanEnds a plan e
    → Sized e.store e.failed
plan_end_sized f isAccepted plan e legal =
    let same = ((demand3 f _ isAccepted).same_ends e).1 (plan, legal) in
    order_sized f isAccepted same.0 e same.1

-- ---- an answer

zeros : Sized no_store no_flags
unfolding no_store no_flags
zeros = record { eight = refl; each = refl }

written_sized : (c : Checked ℕ Written) → ((w : Written) → c ≡ passed w → Sized w.ending.store w.ending.failed)
    → Sized (run_answer c).store (run_answer c).failed
unfolding run_answer
written_sized (refused number place) each = zeros
written_sized (passed w) each = each w refl

ended_sized : (c : Checked ℕ End) → ((e : End) → c ≡ passed e → Sized e.store e.failed)
    → Sized (run_answer (unwritten c)).store (run_answer (unwritten c)).failed
unfolding run_answer unwritten
ended_sized (refused number place) each = zeros
ended_sized (passed e) each = each e refl

-- ---- the entries

pub plan_sized : (f : File) (plan : Plan) → Sized (plan_answer f plan).store (plan_answer f plan).failed
unfolding plan_answer checked
plan_sized f plan =
    ended_sized (checked f plan)
    (λ e h.
    let parts = bind_passed (accept f) (λ a. check_plan a plan) h in
    plan_end_sized f parts.1 plan e (check_legal f parts.1 plan e parts.2))

pub planned_sized : (f : File) (order buffer : List ℕ)
    → Sized (order_to_plan_answer f order buffer).store (order_to_plan_answer f order buffer).failed
unfolding order_to_plan_answer planned_order
planned_sized f order buffer =
    written_sized (planned_order f order buffer)
    (λ w h.
    let parts = bind_passed (accept f) _ h in
    let roomy = then_passed (require (leb plan_room (length buffer)) 20 0) (order_to_plan parts.0 order) parts.2 in
    order_sized f parts.1 order w.ending (((demand3 f _ parts.1).orders order w.ending).0 (w.bytes, roomy.2)))

pub ordered_sized : (f : File) (plan : Plan) (buffer : List ℕ)
    → Sized (plan_to_order_answer f plan buffer).store (plan_to_order_answer f plan buffer).failed
unfolding plan_to_order_answer ordered_plan
ordered_sized f plan buffer =
    written_sized (ordered_plan f plan buffer)
    (λ w h.
    let parts = bind_passed (accept f) _ h in
    let roomy = then_passed (require (leb order_room (length buffer)) 20 0) (plan_to_order parts.0 plan) parts.2 in
    plan_end_sized f parts.1 plan w.ending (((demand3 f _ parts.1).plans plan w.ending).0 (w.bytes, roomy.2)))
