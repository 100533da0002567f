-- The entry from a plan to an order: what it answers and what the lent buffer then holds, by what the file and the plan
-- come to.
-- Assumes nothing.
use Rattle.std.specs.Prelude.{◌≡◌, List, leb, length, Result, Ok, Err}
use Rattle.std.proofs.Math.Path.{sym, ap}
use Rattle.std.proofs.Common.{◌∙◌, le-leb}
use Prim.Native.Nat.{ℕ, ◌≤◌, ◌<◌}
use Rattle.std.proofs.lemmas.Bool.{lt-leb}
use Rattle.notation.specs.Checked.{Checked, refused, passed, mapped}
use Rattle.notation.specs.Laws.CheckedLaws.{require_holds, require_fails, bind_refused, bind_goes}
use Rattle.taskfile.specs.Code.Refusals.{number_of}
use Rattle.taskfile.specs.declared.refusals.Refused.{Refused}
use Rattle.taskfile.specs.Records.{File}
use Rattle.timing.specs.declared.AcceptedFile.{AcceptedFile}
use Rattle.timing.specs.Accepted.{Accepted, accept}
use Rattle.timing.specs.Code.AcceptParts.{AcceptedParts, accepted_file}
use Rattle.timing.specs.Code.IsAccepted.{IsAccepted}
use Rattle.timing.proofs.Laws.AcceptedLaws.{file_accepted}
use Rattle.timing.proofs.Laws.AcceptLaws.{accepted_refused, accepted_passed}
use Rattle.machine.specs.declared.End.{End}
use Rattle.machine.specs.Buffers.{Written, order_room, buffer_after}
use Rattle.plan.specs.Plans.{plan_end}
use Rattle.plan.specs.Runs.{Plan}
use Rattle.matching.specs.Conversions.{order_of, plan_to_order}
use Rattle.matching.specs.ConversionEntries.{ordered_plan, plan_to_order_after}
use Rattle.plan_marks.specs.declared.PlanChecked.{PlanChecked}
use Rattle.plan_marks.specs.Code.TableParts.{PlanCheckedAs, PlanCheckedOf}
use Rattle.matching_orders.specs.Code.OrderWritten.{OrderWritten}

-- the end, and how many bytes were written
abbrev pub end_and_length : Written → End × ℕ
end_and_length w = record { 0 = w.ending; 1 = length w.bytes }

module _ (f : File) (plan : Plan) (buffer : List ℕ) where
  -- an end with its length or a refusal, and what the buffer then holds, are what the plan comes to
  abbrev pub EntryIs : Checked ℕ (End × ℕ) → List ℕ → Type 0
  EntryIs c after = (mapped end_and_length (ordered_plan f plan buffer) ≡ c) × (after ≡ plan_to_order_after f plan buffer)

  comes : {c : Checked ℕ Written} → ordered_plan f plan buffer ≡ c
      → EntryIs (mapped end_and_length c) (buffer_after order_room c buffer)
  unfolding plan_to_order_after
  comes e =
      (ap (mapped end_and_length) e, sym (ap (λ (c : Checked ℕ Written). buffer_after order_room c buffer) e))

  -- a refusal leaves the buffer as it was
  refuses : {n p : ℕ} → ordered_plan f plan buffer ≡ refused n p → EntryIs (refused n p) buffer
  unfolding buffer_after mapped
  refuses e = comes e

  -- a file that is refused
  pub entry_refused : {n p : ℕ} → refused n p ≡ mapped accepted_file (accept f) → EntryIs (refused n p) buffer
  unfolding ordered_plan
  entry_refused e = refuses (bind_refused _ (accepted_refused (accept f) e))

  module _ {x : AcceptedFile} (says : passed x ≡ mapped accepted_file (accept f)) where
    abbrev found : (a : Accepted) × (accept f ≡ passed a) × AcceptedParts x a
    found = accepted_passed (accept f) says

    abbrev a : Accepted
    a = found.0

    ok : IsAccepted a
    ok = file_accepted f found.1

    -- a buffer that is too short
    pub entry_no_room : length buffer < 512 → EntryIs (refused 20 0) buffer
    unfolding ordered_plan
    entry_no_room lt =
        refuses (bind_goes _ found.1
        ∙ require_fails (leb order_room (length buffer)) 20 0 (plan_to_order a plan) (lt-leb 512 (length buffer) lt))

    module _ (room : 512 ≤ length buffer) where
      -- what the plan comes to
      converted : ordered_plan f plan buffer ≡ plan_to_order a plan
      unfolding ordered_plan
      converted =
          bind_goes _ found.1
          ∙ require_holds (leb order_room (length buffer)) 20 0 (plan_to_order a plan) (le-leb 512 (length buffer) room)

      same : (r : Result PlanChecked (Refused ℕ)) → PlanCheckedOf x.table x.list plan r → PlanCheckedAs a plan r
      same r made = made.checks a ok found.2.table found.2.list

      -- a plan that is refused
      pub entry_fault : {e : Refused ℕ} → PlanCheckedOf x.table x.list plan (Err e)
          → EntryIs (refused (number_of e.why) e.place) buffer
      unfolding plan_to_order
      entry_fault {e} made = refuses (converted ∙ bind_refused _ (same (Err e) made))

      -- a plan whose order was written
      pub entry_written : {checked : PlanChecked} → PlanCheckedOf x.table x.list plan (Ok checked)
          → {after : List ℕ} {n : ℕ} → OrderWritten x.table x.list checked.marks buffer after n
          → EntryIs (passed (record { 0 = checked.end; 1 = n })) after
      unfolding plan_to_order buffer_after mapped
      entry_written {checked} made {after} {n} written =
          let legal = same (Ok checked) made in
          let order = written.written a ok found.2.table found.2.list plan legal.runs legal.legal legal.steps in
          let is = comes (converted ∙ bind_goes _ legal.legal) in
          let ends : (plan_end a legal.runs, length (order_of a legal.runs)) ≡ (checked.end, n) =
          λ i. (legal.ends i, sym order.0 i) in
          (is.0 ∙ ap (λ (t : End × ℕ). passed t) ends, order.1 ∙ is.1)
