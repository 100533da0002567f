-- The bytes written of a complete order are those of its plan, and there is room for them.
-- Assumes nothing.
use Rattle.std.specs.Prelude.{◌≡◌, refl, length, take, replicate}
use Rattle.std.proofs.Math.Path.{sym, ap, subst}
use Rattle.std.proofs.Common.{◌∙◌}
use Prim.Native.Nat.{ℕ, ◌*◌, ◌≤◌, ◌<◌}
use native.Mathlib.Omega.{arith}
use Rattle.std.proofs.Math.Bool.{true}
use mathlib.Core.List.{List, [], ◌∷◌, ◌++◌, map}
use Rattle.std.proofs.Math.ListN.{get_or, length-replicate}
use Rattle.notation.specs.Lists.{up_to, each}
use Rattle.notation.specs.Laws.ElementLaws.{replicate_any}
use Rattle.notation.specs.Laws.ListLaws.{each_map}
use Rattle.notation.specs.Laws.TabulateLaws.{values_are}
use Rattle.taskfile.specs.declared.Ceilings.{Ceilings}
use Rattle.timing.specs.Accepted.{Accepted}
use Rattle.timing.specs.Code.IsAccepted.{IsAccepted}
use Rattle.timing.proofs.Laws.JobFacts.{jobs_few}
use Rattle.timing.proofs.Laws.JobNumberLaws.{all_jobs}
use Rattle.machine.specs.Buffers.{plan_room}
use Rattle.machine.specs.Instructions.{Store}
use Rattle.order.proofs.Laws.StepLaws.{initial_invariant}
use Rattle.order.specs.Orders.{Complete}
use Rattle.order.specs.States.{State, initial, has_ended, all_ended}
use Rattle.plan.specs.Runs.{job_total}
use Rattle.order_states.specs.Code.Shows.{Lends, Shows}
use Rattle.order_states.specs.Code.StateBytes.{snapshot_in}
use Rattle.matching.specs.Conversions.{plan_of}
use Rattle.matching.proofs.Laws.FromOrder.EndedLaws.{ended_all}
use Rattle.matching.proofs.Laws.FitsLaws.{plan_fits}
use Rattle.matching.proofs.Laws.History.Histories.{Marks, job}
use Rattle.matching.proofs.Laws.History.JobReadingLaws.{whole_short}
use Rattle.matching.proofs.Laws.FromOrder.OrderKept.{OrderKept, kept_initial}
use Rattle.matching.proofs.Laws.FromOrder.OrderPlanned.{order_planned}
use Rattle.matching.proofs.Laws.FromOrder.OrderRuns.{kept_complete}
use Rattle.matching.proofs.Laws.History.Parts.{Part, beginning}
use Rattle.matching.proofs.Laws.History.PlanReading.{Whole, marks_bytes, written, mark_of}
use Rattle.matching.proofs.Laws.FromOrder.TraceStepLaws.{first_guess_lem, guesses_whole, marks_whole}
use Rattle.matching.proofs.Laws.FromOrder.TraceSteps.{Trace, start_trace, trace_of}
use Rattle.plan_marks.specs.declared.Marks as plan_marks
use Rattle.plan_marks.specs.Code.Marks.{store_at, stores_in, with_store, steps_marked, no_marks}
use Rattle.plan_marks.specs.Laws.MarkLaws.{no_marks_of}
use Rattle.plan_marks.specs.Laws.StoreLaws.{put_length, put_here, stores_joined}
use Rattle.matching_plans.specs.Code.Columns.{job_column, columns_in, plan_in}
use Rattle.matching_plans.specs.Code.Tracing.{TraceState, order_noted}
use Rattle.matching_plans.proofs.Laws.TraceAgreed.{order_held}
use Rattle.matching_plans.proofs.Laws.TraceHeld.{marks_read, HeldTrace}

-- ---- from arrays to bytes

-- a job's bytes are those of its marks
column_read : (marks : plan_marks.Marks) (x : ℕ) → job_column marks x ≡ marks_bytes (marks_read marks x)
unfolding job_column marks_bytes marks_read mark_of
column_read marks x = sym (each_map mark_of (steps_marked marks x) (λ m. m.round ∷ m.value ∷ []))

module _ (guesses : List ℕ) (marks : plan_marks.Marks) (k : ℕ) (t : Trace) where
  columns_read : length t.marks ≡ k → ((x : ℕ) → x < k → marks_read marks x ≡ get_or t.marks x [])
      → columns_in marks k ≡ each t.marks marks_bytes
  unfolding columns_in
  columns_read listed same =
      (λ i. each (up_to k) (λ x. column_read marks x i))
      ∙ sym (each_map (marks_read marks) (up_to k) marks_bytes)
      ∙ ap (λ (h : Marks). each h marks_bytes)
      (sym (values_are (marks_read marks) k t.marks [] listed (λ x lt. sym (same x lt))))

  guesses_read : length guesses ≡ 256 → k ≤ 32 → length t.guesses ≡ k
      → ((q : ℕ) → q < k → store_at guesses q ≡ get_or t.guesses q [])
      → take (8 * k) guesses ≡ each t.guesses (λ store. store)
  unfolding stores_in
  guesses_read room few guessed same =
      sym (stores_joined guesses k (omega arith))
      ∙ ap (λ (l : List Store). each l (λ store. store))
      (sym (values_are (store_at guesses) k t.guesses [] guessed (λ q lt. sym (same q lt))))

-- ---- where an order starts

-- the arrays before the first step
abbrev pub first_guesses : Store → List ℕ
first_guesses store = with_store (replicate 256 0) 0 store

module _ {a : Accepted} (ok : IsAccepted a) {program waits : List ℕ} {locks : Ceilings} (lends : Lends a program waits locks)
    (start : List ℕ) (shows : Shows a (snapshot_in start) (initial a)) where
  abbrev first : TraceState
  first = record { state = snapshot_in start; round = 0; marks = no_marks; guesses = first_guesses a.table.store }

  held_start : HeldTrace a (initial a) 0 (start_trace a) first
  unfolding start_trace marks_read job_total
  held_start =
      let zeros = length-replicate {A = ℕ} 256 0 in
      let few = jobs_few ok.is_timed in
      record {
        shows = shows;
        round = λ lt. refl;
        room = put_length (replicate 256 0) zeros 0 (omega arith) a.table.store ok.is_made.store ∙ zeros;
        marks = λ x lt. ap (map mark_of) (no_marks_of x (omega arith)) ∙ sym (replicate_any (job_total a) x []);
        guesses = λ q lt le.
            (let none : q ≡ 0 = omega arith in
            ap (store_at (first_guesses a.table.store)) none
            ∙ put_here (replicate 256 0) zeros 0 (omega arith) a.table.store ok.is_made.store
            ∙ sym (first_guess_lem a.table.store (job_total a) [] (omega arith))
            ∙ ap (λ (k : ℕ). get_or (start_trace a).guesses k []) (sym none));
      }

  module _ {order : List ℕ} {s : State} (complete : Complete a order s) where
    kept : OrderKept a s (job_total a) (trace_of a order) order
    kept = kept_complete ok complete

    -- each job has come to its End, so it has at most sixteen steps
    short : (x : ℕ) → x < job_total a → length (get_or (trace_of a order).marks x []) ≤ 16
    unfolding job job_total all_ended
    short x is_x =
        let ended : has_ended s (job x) ≡ true = all_jobs a (has_ended s) complete.finished (job x) is_x in
        let part = kept.parts x (omega (arith, marks_whole a order)) in
        let whole : Whole a x 0 (get_or (trace_of a order).marks x []) (beginning a (trace_of a order).marks (trace_of a order).guesses x) =
        subst (Part a (trace_of a order).marks (trace_of a order).guesses x) ended part in
        whole_short ok x is_x (get_or (trace_of a order).marks x []) _ whole

    -- the arrays after the last step
    held_end : HeldTrace a s (job_total a) (trace_of a order) (order_noted program waits locks first order)
    unfolding trace_of
    held_end =
        subst (λ (q : ℕ). HeldTrace a s q (trace_of a order) (order_noted program waits locks first order)) (ended_all a s complete.finished)
        (order_held ok lends order (initial_invariant a) (kept_initial ok) held_start complete.allowed short)

    -- they are written as the order's plan
    pub plan_noted : (n : TraceState) → n ≡ order_noted program waits locks first order
        → plan_in n.guesses n.marks (job_total a) ≡ plan_of a order
    unfolding plan_in written job_total
    plan_noted n noted =
        let few = jobs_few ok.is_timed in
        let k : ℕ = job_total a in
        let t : Trace = trace_of a order in
        let stepped = columns_read n.guesses n.marks k t (marks_whole a order)
        (λ x lt. ap (λ (m : TraceState). marks_read m.marks x) noted ∙ held_end.marks x lt) in
        let begun = guesses_read n.guesses n.marks k t (ap (λ (m : TraceState). length m.guesses) noted ∙ held_end.room) few (guesses_whole a order)
        (λ q lt. ap (λ (m : TraceState). store_at m.guesses q) noted ∙ held_end.guesses q lt (omega arith)) in
        ap (λ (l : List ℕ). k ∷ l ++ columns_in n.marks k) begun
        ∙ ap (λ (l : List ℕ). k ∷ each t.guesses (λ store. store) ++ l) stepped
        ∙ sym (order_planned ok complete).is_written

    -- which fits the room
    pub plan_short : length (plan_of a order) ≤ plan_room
    plan_short = plan_fits ok (plan_of a order) (order_planned ok complete).legal
