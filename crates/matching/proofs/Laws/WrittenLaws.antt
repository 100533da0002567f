-- What a conversion's entry leaves in its buffer. Document 01: "What is turned back is the bytes written up to the
-- returned length, without the zero fill." For an accepted file and a buffer of the size asked for, these are the whole
-- plan of a complete order and the whole order of a legal plan.
-- Assumes nothing.
use Rattle.std.specs.Prelude.{◌≡◌, ℕ, ◌≤◌, List, length, take}
use Rattle.std.proofs.Common.{◌∙◌, le-leb}
use Rattle.notation.specs.Checked.{Checked, passed}
use Rattle.notation.specs.Laws.CheckedLaws.{bind_goes, require_holds}
use Rattle.taskfile.specs.Records.{File}
use Rattle.timing.specs.Accepted.{Accepted, accept}
use Rattle.machine.specs.declared.End.{End}
use Rattle.plan.specs.Runs.{Plan}
use Rattle.matching.specs.ConversionEntries.{planned_order, order_to_plan_answer, order_to_plan_after, ordered_plan, plan_to_order_answer, plan_to_order_after}
use Rattle.matching.specs.Conversions.{order_to_plan, plan_to_order}
use Rattle.matching.specs.Demand3.{OrderGives, PlanGives}
use Rattle.matching.proofs.Laws.Demand3Laws.{demand3}
use Rattle.matching.proofs.Laws.FitsLaws.{fill_keeps}
use Rattle.machine.specs.Buffers.{Written, run_answer, buffer_after, order_room, plan_room}

-- up to the returned length the buffer holds what was written
buffer_holds : (room : ℕ) (c : Checked ℕ Written) (buffer : List ℕ) {e : End} {bytes : List ℕ}
    → c ≡ passed (record { ending = e; bytes = bytes }) → length bytes ≤ room
    → take (run_answer c).length (buffer_after room c buffer) ≡ bytes
unfolding run_answer buffer_after
buffer_holds room c buffer {e} {bytes} written fits = rw written (fill_keeps room bytes buffer fits)

module _ (f : File) {a : Accepted} (isAccepted : accept f ≡ passed a) (buffer : List ℕ) where
  -- the plan of a complete order stands whole in its buffer
  pub plan_stands : (order : List ℕ) (plan : Plan) (e : End) → plan_room ≤ length buffer → OrderGives a order e plan
      → take (order_to_plan_answer f order buffer).length (order_to_plan_after f order buffer) ≡ plan
  unfolding order_to_plan_answer order_to_plan_after planned_order
  plan_stands order plan e room made =
      buffer_holds plan_room (planned_order f order buffer) buffer
      (bind_goes _ isAccepted ∙ require_holds _ 20 0 (order_to_plan a order) (le-leb _ _ room) ∙ made)
      ((demand3 f _ isAccepted).plan_fits order plan e made)

  -- and the order of a legal plan in its own
  pub order_stands : (plan : Plan) (order : List ℕ) (e : End) → order_room ≤ length buffer → PlanGives a plan e order
      → take (plan_to_order_answer f plan buffer).length (plan_to_order_after f plan buffer) ≡ order
  unfolding plan_to_order_answer plan_to_order_after ordered_plan
  order_stands plan order e room made =
      buffer_holds order_room (ordered_plan f plan buffer) buffer
      (bind_goes _ isAccepted ∙ require_holds _ 20 0 (plan_to_order a plan) (le-leb _ _ room) ∙ made)
      ((demand3 f _ isAccepted).order_fits plan order e made)
