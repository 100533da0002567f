-- The next step of a legal plan, read by rows, taken as an order's step: what holds of the plan's steps so far as an
-- order holds with that step too. Where it is an End, the store that it leaves is the next round's guess, since
-- nothing of the round is left.
-- Assumes nothing.
use Rattle.std.specs.Prelude.{◌≡◌, ◌⊎◌, Bool, replicate}
use Rattle.std.proofs.Math.Path.{refl, sym, ap}
use Rattle.std.proofs.Common.{subst, ◌∙◌, arith}
use Rattle.std.proofs.Math.Logic.{inl, inr}
use Prim.Native.Nat.{ℕ, suc, ◌≤◌, ◌<◌}
use Rattle.std.proofs.Math.Decide.{dec_lt, ℕ_discrete}
use Rattle.std.proofs.Math.Bool.{true, false}
use mathlib.Core.List.{List, [], ◌∷◌, ◌++◌, append_assoc}
use Rattle.std.proofs.Math.ListN.{length, get_or, set, length-append}
use Rattle.std.proofs.Math.Seq.{get_or-set_same, get_or-set_other, set_out}
use Rattle.std.proofs.lemmas.List.{set-get_or}
use Rattle.notation.specs.Laws.ListLaws.{map_snoc}
use Rattle.std.specs.Prelude.{if◌then◌else◌}
use Rattle.notation.specs.Laws.TestLaws.{test_decided}
use Rattle.timing.specs.declared.Job.{Job}
use Rattle.timing.specs.Accepted.{Accepted}
use Rattle.timing.specs.Code.IsAccepted.{IsAccepted}
use Rattle.machine.specs.declared.Effect.{Effect}
use Rattle.machine.specs.Ends.{no_store}
use Rattle.machine.specs.Instructions.{Store, perform}
use Rattle.order.specs.OrderBytes.{task_of_byte, value_of_byte}
use Rattle.order.specs.Code.Invariant.{has_begun, Invariant}
use Rattle.order.specs.Orders.{next_of, run}
use Rattle.order.specs.States.{State, initial, has_ended}
use Rattle.order.proofs.Laws.StepLaws.{GoodTurn, good_turn, after_effect, begun_before, AllowedStep, step_says, step_keeps, initial_invariant}
use Rattle.plan.specs.Legality.{due_store}
use Rattle.plan.specs.Plans.{Legal}
use Rattle.plan.specs.Runs.{Plan, JobRuns, job_total}
use Rattle.matching.proofs.Laws.FromPlan.CutColumns.{store_left}
use Rattle.matching.proofs.Laws.FromPlan.Cuts.{Placed, sequence, placed_byte, gathered}
use Rattle.matching.proofs.Laws.FromOrder.EndedLaws.{ended_none}
use Rattle.matching.proofs.Laws.History.Histories.{Mark, Marks, job, marked, in_round, Columns, unbegun, columns}
use Rattle.matching.proofs.Laws.FromOrder.MovedLaws.{mark_at, columns_moved, moved_endings, moved_present}
use Rattle.matching.proofs.Laws.FromPlan.PlanColumns.{legal_back, legal_climbs, legal_stores, guess_due}
use Rattle.matching.proofs.Laws.FromPlan.PlanKept.{done_marks, done_bytes, PlanKept, StepDue, plan_cut, cut_round, kept_round, next_job, next_due}
use Rattle.matching.proofs.Laws.History.PlanReading.{marks_of, guesses_of}
use Rattle.matching.proofs.Laws.History.RowLaws.{marked_keeps}
use Rattle.matching.proofs.Laws.FromPlan.SequenceLaws.{sequence_gathered}
use Rattle.matching.proofs.Laws.FromOrder.Traces.{Traced}
use Rattle.matching.proofs.Laws.FromOrder.TraceLaws.{step_ends_lem, step_goes}
use Rattle.matching.proofs.Laws.FromOrder.TraceMore.{run_more, trace_more}
use Rattle.matching.proofs.Laws.FromOrder.TraceStepLaws.{guesses_whole}
use Rattle.matching.proofs.Laws.FromOrder.TraceSteps.{Trace, traced, start_trace, trace_of}
use Rattle.matching.proofs.Laws.FromOrder.TurnTraceLaws.{GoesOn, Starts, turn_kind, step_after, step_failed}

-- ---- what a step makes of the columns, on the same guesses

module _ {a : Accepted} (ok : IsAccepted a) {s : State} (inv : Invariant a s) {r : ℕ} {guesses : List Store} {h : Marks} {done : List ℕ}
    (t : Traced a s r guesses h done) {byte : ℕ} {after : State} (made : AllowedStep a s byte after) where
  abbrev effect : Effect
  effect = perform (next_of a made.turn.frame) (value_of_byte byte) made.turn.frame.local s.store

  abbrev more : Marks
  more = marked h made.turn.frame.job.0 (mark_at r (value_of_byte byte))

  good : GoodTurn a s made.turn
  good = (good_turn ok inv (task_of_byte byte) made.due).0

  kind : GoesOn s made.turn ⊎ Starts s made.turn
  kind = turn_kind a s (task_of_byte byte) made.due

  -- the columns say which jobs have ended then, and the round's store
  step_endings : (y : ℕ) → y < job_total a
      → (get_or (columns a more guesses).jobs y unbegun).ended ≡ has_ended after (job y)
  step_endings y lt =
      ap (λ (c : Columns). (get_or c.jobs y unbegun).ended) (columns_moved ok inv t good kind (value_of_byte byte) effect refl)
      ∙ moved_endings ok inv t good kind (value_of_byte byte) effect refl y lt
      ∙ ap (λ (z : State). has_ended z (job y)) (step_after made)

  step_present : get_or (columns a more guesses).stores r no_store ≡ after.store
  unfolding after_effect
  step_present =
      ap (λ (c : Columns). get_or c.stores r no_store) (columns_moved ok inv t good kind (value_of_byte byte) effect refl)
      ∙ moved_present ok inv t good kind (value_of_byte byte) effect refl
      ∙ ap (λ (z : State). z.store) (step_after made)

  -- other jobs have begun as before
  step_begun : (y : ℕ) → (y ≡ made.turn.frame.job.0 → ⊥) → has_begun after (job y) ≡ true → has_begun s (job y) ≡ true
  unfolding job
  step_begun y apart e = begun_before ok inv good effect (job y) apart (ap (λ (z : State). has_begun z (job y)) (step_after made) ∙ e)

-- ---- one step more

gathered_snoc : (h : Marks) (ps : List Placed) (p : Placed)
    → gathered h (ps ++ (p ∷ [])) ≡ marked (gathered h ps) p.number p.mark
unfolding gathered
gathered_snoc h [] p = refl
gathered_snoc h (q ∷ ps) p = gathered_snoc (marked h q.number q.mark) ps p

module _ {a : Accepted} (ok : IsAccepted a) (plan : Plan) {runs : JobRuns} (legal : Legal a plan runs) {s : State} {r : ℕ} {done : List Placed}
    (kept : PlanKept a plan s r done) (p : Placed) (rest : List Placed)
    (split : sequence (job_total a) (marks_of runs) ≡ done ++ (p ∷ rest)) where
  abbrev S : List Store
  S = guesses_of a plan

  abbrev byte : ℕ
  byte = placed_byte a p

  abbrev next : List Placed
  next = done ++ (p ∷ [])

  due : StepDue a s p
  due = next_due ok plan legal kept p rest split

  made : AllowedStep a s (placed_byte a p) due.after
  made = step_says a s byte due.taken

  whose : made.turn.frame.job.0 ≡ p.number
  unfolding job made
  whose = ap (λ (y : Job). y.0) due.whose

  -- the marks and the bytes with the step
  abbrev step_marks : Marks
  step_marks = marked (done_marks a done) made.turn.frame.job.0 (mark_at r (value_of_byte byte))

  marks_more : done_marks a next ≡ marked (done_marks a done) p.number p.mark
  marks_more = gathered_snoc (replicate (job_total a) []) done p

  marks_step : step_marks ≡ done_marks a next
  marks_step =
      ap (λ (y : ℕ). marked (done_marks a done) y (mark_at r (value_of_byte byte))) whose
      ∙ ap (λ (v : ℕ). marked (done_marks a done) p.number (mark_at r v)) due.value
      ∙ ap (λ (q : ℕ). marked (done_marks a done) p.number (mark_at q p.mark.value)) (kept_round ok plan legal kept p rest split)
      ∙ sym marks_more

  bytes_step : done_bytes a done ++ (byte ∷ []) ≡ done_bytes a next
  bytes_step = sym (map_snoc (placed_byte a) done p)

  endings : (y : ℕ) → y < job_total a
      → (get_or (columns a (done_marks a next) S).jobs y unbegun).ended ≡ has_ended due.after (job y)
  endings y lt =
      ap (λ (h : Marks). (get_or (columns a h S).jobs y unbegun).ended) (sym marks_step) ∙ step_endings ok kept.inv kept.trace made y lt

  present : get_or (columns a (done_marks a next) S).stores r no_store ≡ due.after.store
  present =
      ap (λ (h : Marks). get_or (columns a h S).stores r no_store) (sym marks_step) ∙ step_present ok kept.inv kept.trace made

  -- no step is in a later round
  none_later : (y q : ℕ) → r < q → in_round q (get_or (done_marks a next) y []) ≡ []
  none_later y q lt =
      ap (λ (h : Marks). in_round q (get_or h y [])) (sym marks_step)
      ∙ marked_keeps q (done_marks a done) made.turn.frame.job.0 y (mark_at r (value_of_byte byte)) (λ e. omega arith)
      ∙ kept.trace.later y q lt

  -- ---- an End

  module _ (ends : has_ended due.after made.turn.frame.job ≡ true) where
    -- it is the last step of its round, so the round's store is the whole history's
    store_whole : (more : List Placed) → rest ≡ more
        → get_or (columns a (done_marks a next) S).stores r no_store ≡ get_or (columns a (marks_of runs) S).stores r no_store
    store_whole [] none =
        ap (λ (h : Marks). get_or (columns a h S).stores r no_store)
        (ap (gathered (replicate (job_total a) [])) (sym (split ∙ ap (λ (l : List Placed). done ++ (p ∷ l)) none))
        ∙ ap (λ (n : ℕ). gathered (replicate n []) (sequence (job_total a) (marks_of runs))) (sym (legal_back ok plan legal).full)
        ∙ sequence_gathered (job_total a) (marks_of runs) (legal_climbs ok plan legal))
    store_whole (n ∷ more) is =
        let parts = split ∙ ap (λ (l : List Placed). done ++ (p ∷ l)) is ∙ sym (append_assoc done (p ∷ []) (n ∷ more)) in
        let cut = plan_cut ok plan legal next n more parts in
        let counted = (step_ends_lem ok kept.inv kept.trace made ends).ends in
        let round : n.mark.round ≡ suc r = sym (cut_round ok plan legal cut due.after endings) ∙ counted in
        store_left a S (marks_of runs) (done_marks a next) cut.rest r cut.whole (λ y. cut.left y r (omega arith)) none_later
        (λ y q lt. cut.left y q (omega arith))

    -- which is the next round's guess
    guess_next_lem : suc r < job_total a → (d : Store) → get_or S (suc r) d ≡ due.after.store
    unfolding due_store
    guess_next_lem lt d =
        guess_due ok plan legal (suc r) lt d
        ∙ ap (λ (stores : List Store). get_or stores r no_store) (legal_stores ok plan legal)
        ∙ sym (store_whole rest refl)
        ∙ present

    guesses_same : set S (suc r) due.after.store ≡ S
    guesses_same = elim (dec_lt (suc r) (job_total a)) [
      | yes lt ↦ ap (set S (suc r)) (sym (guess_next_lem lt [])) ∙ set-get_or S (suc r) []
      | no out ↦ set_out S (suc r) due.after.store (omega (arith, (legal_back ok plan legal).total))
    ]

  -- ---- what holds with the step

  begun_more : (y : ℕ) → y < job_total a → has_begun due.after (job y) ≡ true → get_or (done_marks a next) y [] ≡ [] → ⊥
  unfolding marked
  begun_more y lt e none =
      let here : List Mark = get_or (done_marks a done) p.number [] ++ (p.mark ∷ []) in
      let was = ap (λ (h : Marks). get_or h y []) (sym marks_more) ∙ none in
      elim (ℕ_discrete y p.number) [
        | yes same ↦
            let own = get_or-set_same (done_marks a done) p.number here []
            (omega (arith, kept.trace.listed, next_job ok plan legal kept p rest split)) in
            let empty = sym own ∙ ap (λ (n : ℕ). get_or (set (done_marks a done) p.number here) n []) (sym same) ∙ was in
            omega (arith, ap length empty, length-append (get_or (done_marks a done) p.number []) (p.mark ∷ []))
        | no apart ↦
            kept.begun y lt (step_begun ok kept.inv kept.trace made y (λ e. apart (e ∙ whose)) e)
            (sym (get_or-set_other (done_marks a done) p.number y here [] apart) ∙ was)
      ]

  beyond_more : (y : ℕ) → job_total a ≤ y → get_or due.after.failed y false ≡ false
  beyond_more y up =
      step_failed made y (λ e. omega (arith, e, whose, next_job ok plan legal kept p rest split)) ∙ kept.beyond y up

  -- the trace with the step
  trace_step : trace_of a (done_bytes a next) ≡ traced r made.turn.frame.job.0 (value_of_byte byte)
      (has_ended due.after made.turn.frame.job) due.after.store (trace_of a (done_bytes a done))
  unfolding trace_of job made
  trace_step =
      let x : Job = made.turn.frame.job in
      ap (trace_of a) (sym bytes_step)
      ∙ trace_more ok (done_bytes a done) (initial_invariant a) 0 (sym (ended_none a)) (start_trace a) kept.ran byte due.taken
      ∙ ap
      (λ (q : ℕ). traced q x.0 (value_of_byte byte) (has_ended due.after x) due.after.store (trace_of a (done_bytes a done)))
      kept.trace.ends

  trace_marks : (trace_of a (done_bytes a next)).marks ≡ done_marks a next
  unfolding traced
  trace_marks =
      ap (λ (t : Trace). t.marks) trace_step
      ∙ ap (λ (h : Marks). marked h made.turn.frame.job.0 (mark_at r (value_of_byte byte))) kept.marks
      ∙ marks_step

  trace_guesses : (b : Bool) → has_ended due.after made.turn.frame.job ≡ b
      → (trace_of a (done_bytes a next)).guesses ≡ (if b then set (trace_of a (done_bytes a done)).guesses (suc r)
      due.after.store else (trace_of a (done_bytes a done)).guesses)
  unfolding traced
  trace_guesses b is =
      ap (λ (t : Trace). t.guesses) trace_step
      ∙ ap
      (λ (b : Bool). if b then set (trace_of a (done_bytes a done)).guesses (suc r) due.after.store else (trace_of a (done_bytes a done)).guesses)
      is

  guesses_ended : has_ended due.after made.turn.frame.job ≡ true → (q : ℕ) → q ≤ suc r → q < job_total a
      → get_or (trace_of a (done_bytes a next)).guesses q [] ≡ get_or S q []
  guesses_ended ends q le lt =
      let before : List Store = (trace_of a (done_bytes a done)).guesses in
      ap (λ (l : List Store). get_or l q []) (trace_guesses true ends)
      ∙ elim (ℕ_discrete q (suc r)) [
        | yes same ↦
            ap (λ (n : ℕ). get_or (set before (suc r) due.after.store) n []) same
            ∙ get_or-set_same before (suc r) due.after.store [] (omega (arith, guesses_whole a (done_bytes a done)))
            ∙ sym (guess_next_lem ends (omega arith) [])
            ∙ ap (λ (n : ℕ). get_or S n []) (sym same)
        | no apart ↦ get_or-set_other before (suc r) q due.after.store [] apart ∙ kept.guesses q (omega arith) lt
      ]

  -- the trace so far, with the plan's guesses
  traced_more : (r : ℕ) (guesses : List Store) → guesses ≡ S
      → Traced a due.after r guesses step_marks (done_bytes a done ++ (byte ∷ []))
      → Traced a due.after r S (done_marks a next) (done_bytes a next)
  traced_more r guesses same t =
      subst (λ (l : List ℕ). Traced a due.after r S (done_marks a next) l) bytes_step
      (subst (λ (h : Marks). Traced a due.after r S h (done_bytes a done ++ (byte ∷ []))) marks_step
      (subst (λ (g : List Store). Traced a due.after r g step_marks (done_bytes a done ++ (byte ∷ []))) same t))

  kept_with : (q : ℕ) → Traced a due.after q S (done_marks a next) (done_bytes a next)
      → ((n : ℕ) → n ≤ q → n < job_total a → get_or (trace_of a (done_bytes a next)).guesses n [] ≡ get_or S n [])
      → PlanKept a plan due.after q next
  kept_with q t guesses = record {
    ran =
        ap (run a (initial a)) (sym bytes_step) ∙ run_more a (done_bytes a done) (initial a) kept.ran byte due.taken;
    inv = step_keeps ok kept.inv byte due.taken;
    trace = t;
    begun = begun_more;
    beyond = beyond_more;
    marks = trace_marks;
    guesses = guesses;
  }

  -- the plan's steps with the next are an order so far
  pub plan_steps : (after : State) × (q : ℕ) × PlanKept a plan after q (done ++ (p ∷ []))
  plan_steps = elim (test_decided (has_ended due.after made.turn.frame.job)) [
    | inl ends ↦ (
      due.after,
      suc r,
      kept_with (suc r)
          (traced_more (suc r) (set S (suc r) due.after.store) (guesses_same ends) (step_ends_lem ok kept.inv kept.trace made ends))
          (guesses_ended ends),
    )
    | inr goes ↦ (
      due.after,
      r,
      kept_with r (traced_more r S refl (step_goes ok kept.inv kept.trace made goes))
          (λ n le lt. ap (λ (l : List Store). get_or l n []) (trace_guesses false goes) ∙ kept.guesses n le lt),
    )
  ]
