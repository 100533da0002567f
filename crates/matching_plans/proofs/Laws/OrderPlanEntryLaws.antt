-- The entry from an order to a plan: what it answers and what the lent buffer then holds, by what the file and the
-- order come to.
-- Assumes nothing.
use Rattle.std.specs.Prelude.{◌≡◌, leb, length, replicate, take, drop, ◌++◌, Result, Ok, Err}
use Rattle.std.proofs.Common.{sym, ◌∙◌, arith, le-leb}
use Rattle.std.proofs.Math.Path.{ap, subst}
use Prim.Native.Nat.{ℕ, ◌≤◌, ◌<◌}
use mathlib.Core.List.{List}
use Rattle.std.proofs.lemmas.List.{length-replicate}
use Rattle.std.proofs.lemmas.Bool.{lt-leb}
use Rattle.notation.specs.Checked.{Checked, refused, passed, mapped}
use Rattle.notation.specs.Laws.CheckedLaws.{require_fails, require_holds, bind_refused, bind_goes}
use Rattle.taskfile.specs.declared.refusals.Refused.{Refused}
use Rattle.taskfile.specs.Code.Refusals.{outcome, number_of}
use Rattle.taskfile.specs.declared.Table.{Table}
use Rattle.taskfile.specs.Records.{File}
use Rattle.timing.specs.declared.AcceptedFile.{AcceptedFile}
use Rattle.timing.specs.declared.JobList.{JobList}
use Rattle.timing.specs.Accepted.{Accepted, accept}
use Rattle.timing.specs.Code.AcceptParts.{AcceptedParts, accepted_file}
use Rattle.timing.specs.Code.IsAccepted.{IsAccepted}
use Rattle.timing.specs.Code.JobParts.{job_list_of}
use Rattle.timing.proofs.Laws.AcceptedLaws.{file_accepted}
use Rattle.timing.proofs.Laws.AcceptLaws.{accepted_refused, accepted_passed}
use Rattle.machine.specs.Buffers.{Written, buffer_after, plan_room, filled}
use Rattle.machine.specs.declared.End.{End}
use Rattle.machine.specs.Instructions.{Store}
use Rattle.order.proofs.Laws.CompleteLaws.{replay_complete}
use Rattle.order.specs.Replay.{replay}
use Rattle.plan.specs.Runs.{job_total}
use Rattle.order_states.specs.Code.ReplayParts.{ReplayOf}
use Rattle.order_states.specs.declared.Lent.{Lent}
use Rattle.order_lending.specs.Code.Lending.{LentOf}
use Rattle.matching.specs.Conversions.{plan_of, order_to_plan}
use Rattle.matching.specs.ConversionEntries.{planned_order, order_to_plan_after}
use Rattle.order_states.specs.Code.StateBytes.{snapshot_in}
use Rattle.notation_buffers.specs.Code.Pages.{Fills}
use Rattle.matching_plans.specs.declared.Trace.{Trace}
use Rattle.notation_buffers.specs.Laws.FrontLaws.{front_within, front_whole, front_fills}
use Rattle.plan_marks.specs.Code.Marks.{with_store, no_marks}
use Rattle.plan_marks.specs.Laws.StoreLaws.{put_length}
use Rattle.matching_plans.specs.Code.Columns.{plan_in}
use Rattle.matching_plans.specs.Code.PlanWritten.{PlanWritten}
use Rattle.matching_plans.specs.Code.Tracing.{TraceState, noted_of, order_noted}
use Rattle.matching_plans.proofs.Laws.PlanAgreed.{first_guesses, plan_noted, plan_short}

-- ---- the plan of a table's parts

-- the guesses with the first store put are whole
pub guesses_begin : (store : Store) → length store ≡ 8 → {first : List ℕ} → first ≡ with_store (replicate 256 0) 0 store
    → length first ≡ 256
guesses_begin store eight begins =
    let zeros = length-replicate {A = ℕ} 256 0 in
    ap length begins ∙ put_length (replicate 256 0) zeros 0 (omega arith) store eight ∙ zeros

-- where the trace begins, with these guesses
abbrev begun_at : List ℕ → List ℕ → TraceState
begun_at start guesses = record { state = snapshot_in start; round = 0; marks = no_marks; guesses = guesses }

module _ {t : Table} {list : JobList} {l : Lent} (order before : List ℕ) (lent : LentOf t list l)
    (enough : plan_room ≤ length before) {first : List ℕ} (begins : first ≡ with_store (replicate 256 0) 0 t.store)
    (trace : Trace) (noted : noted_of trace ≡ order_noted l.program l.waits l.locks (begun_at l.start.bytes first) order)
    {after : List ℕ} {n : ℕ} (does : Fills (take plan_room before) (plan_in trace.guesses trace.marks list.count) after n) where
  -- the bytes end within the room
  pub plan_within : n ≤ plan_room
  plan_within = front_within before enough does

  pub plan_written : PlanWritten t list order before (after ++ drop plan_room before) n
  unfolding job_list_of filled job_total
  plan_written = record {
    fits = plan_within;
    written = λ a ok table listed s complete.
        (let starts : first ≡ first_guesses a.table.store = begins ∙ ap (λ (u : Table). first_guesses u.store) table in
        let traced = subst
        (λ (g : List ℕ). noted_of trace ≡ order_noted l.program l.waits l.locks (begun_at l.start.bytes g) order)
        starts noted in
        let count : list.count ≡ job_total a = ap (λ (u : JobList). u.count) listed in
        let bytes : plan_in trace.guesses trace.marks list.count ≡ plan_of a order =
        ap (plan_in trace.guesses trace.marks) count
        ∙ plan_noted ok (lent.lends a ok table listed) l.start.bytes (lent.shows a ok table listed) complete _ traced in
        let plan = subst (λ (b : List ℕ). Fills (take plan_room before) b after n) bytes does in
        let short = plan_short ok (lent.lends a ok table listed) l.start.bytes (lent.shows a ok table listed) complete in
        (front_whole before enough plan short, front_fills before enough plan));
  }

-- ---- the entry

-- the end, and how many bytes were written
abbrev pub end_and_length : Written → End × ℕ
end_and_length w = record { 0 = w.ending; 1 = length w.bytes }

module _ (f : File) (order buffer : List ℕ) where
  -- an end with its length or a refusal, and what the buffer then holds, are what the order comes to
  abbrev Answers : Checked ℕ (End × ℕ) → List ℕ → Type 0
  Answers c after = (mapped end_and_length (planned_order f order buffer) ≡ c) × (after ≡ order_to_plan_after f order buffer)

  comes : {c : Checked ℕ Written} → planned_order f order buffer ≡ c
      → Answers (mapped end_and_length c) (buffer_after plan_room c buffer)
  unfolding order_to_plan_after
  comes e = (ap (mapped end_and_length) e, ap (λ (c : Checked ℕ Written). buffer_after plan_room c buffer) (sym e))

  answers_refusal : {n p : ℕ} → planned_order f order buffer ≡ refused n p → Answers (refused n p) buffer
  unfolding buffer_after mapped
  answers_refusal e = comes e

  answers_written : {w : Written} → planned_order f order buffer ≡ passed w
      → Answers (passed (end_and_length w)) (filled plan_room w.bytes buffer)
  unfolding buffer_after mapped
  answers_written e = comes e

  -- a file that is refused
  pub planning_refused : {n p : ℕ} → refused n p ≡ mapped accepted_file (accept f) → Answers (refused n p) buffer
  unfolding planned_order
  planning_refused e = answers_refusal (bind_refused _ (accepted_refused (accept f) e))

  module _ {x : AcceptedFile} (says : passed x ≡ mapped accepted_file (accept f)) where
    abbrev found : (a : Accepted) × (accept f ≡ passed a) × AcceptedParts x a
    found = accepted_passed (accept f) says

    abbrev a : Accepted
    a = found.0

    ok : IsAccepted a
    ok = file_accepted f found.1

    -- a buffer that is too short
    pub planning_no_room : length buffer < 1281 → Answers (refused 20 0) buffer
    unfolding planned_order
    planning_no_room lt =
        answers_refusal
        (bind_goes _ found.1 ∙ require_fails (leb plan_room (length buffer)) 20 0 (order_to_plan a order) (lt-leb 1281 (length buffer) lt))

    module _ (room : 1281 ≤ length buffer) (r : Result End (Refused ℕ)) (made : ReplayOf x.table x.list order r) where
      same : {c : Result End (Refused ℕ)} → r ≡ c → replay a order ≡ outcome c
      same is = sym (made a ok found.2.table found.2.list) ∙ ap outcome is

      -- a buffer with room holds what the order comes to
      planned : {c : Checked ℕ Written} → order_to_plan a order ≡ c → planned_order f order buffer ≡ c
      unfolding planned_order
      planned e =
          bind_goes _ found.1 ∙ require_holds (leb plan_room (length buffer)) 20 0 (order_to_plan a order) (le-leb 1281 (length buffer) room) ∙ e

      -- an order that is at fault
      pub planning_fault : {e : Refused ℕ} → r ≡ Err e → Answers (refused (number_of e.why) e.place) buffer
      unfolding order_to_plan
      planning_fault is = answers_refusal (planned (bind_refused _ (same is)))

      -- a complete order
      pub planning_written : {e : End} → r ≡ Ok e → {after : List ℕ} {n : ℕ}
          → PlanWritten x.table x.list order buffer after n → Answers (passed (record { 0 = e; 1 = n })) after
      unfolding order_to_plan
      planning_written {e} is written =
          let replays = same is in
          let full = replay_complete ok order replays in
          let plan = written.written a ok found.2.table found.2.list full.0 full.1 in
          let made = answers_written (planned (bind_goes _ replays)) in
          (made.0 ∙ ap (λ (k : ℕ). passed (record { 0 = e; 1 = k })) (sym plan.0), plan.1 ∙ made.1)
