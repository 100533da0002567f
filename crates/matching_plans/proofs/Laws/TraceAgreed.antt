-- A traced order on arrays is the order's trace: the step that a byte asks for is the one of `Orders`, and it ends a
-- round exactly if it is its job's End.
-- Assumes nothing.
use Rattle.std.specs.Prelude.{◌≡◌, refl, ℕ, suc, ◌+◌, ◌≤◌, ◌<◌, Bool, true, false, get_or, take, eqb, Option, Some, None}
use Rattle.std.proofs.Math.Path.{sym, ap, subst}
use Rattle.std.proofs.Common.{◌∙◌, get_or-set_same}
use native.Mathlib.Omega.{arith}
use mathlib.Core.List.{List, [], ◌∷◌, ◌++◌, reverse}
use Rattle.std.proofs.Math.Option.{none, some}
use Rattle.std.proofs.Math.ListN.{length, length-append}
use borrow.Author.Tests.{lt-ltb, eq-eqb, ne_eqb}
use Rattle.std.specs.Prelude.{if◌then◌else◌}
use Rattle.taskfile.specs.declared.Ceilings.{Ceilings}
use Rattle.taskfile.specs.declared.Instruction.{Instruction}
use Rattle.timing.specs.Accepted.{Accepted}
use Rattle.timing.specs.Code.IsAccepted.{IsAccepted}
use Rattle.timing.specs.declared.Job.{Job}
use Rattle.timing.proofs.Laws.JobFacts.{jobs_few}
use Rattle.timing.specs.Relations.{base}
use Rattle.machine.specs.declared.Effect.{Effect}
use Rattle.machine.specs.Instructions.{Store, perform}
use Rattle.order.specs.OrderBytes.{task_of_byte, value_of_byte}
use Rattle.order.specs.Code.Invariant.{Invariant}
use Rattle.order.specs.Orders.{Turn, next_of, run}
use Rattle.order.specs.States.{State, has_ended}
use Rattle.order.proofs.Laws.StepLaws.{GoodTurn, good_turn, performed_is, AllowedStep, step_says, step_keeps}
use Rattle.plan.specs.Runs.{job_total}
use Rattle.order_states.specs.declared.Due.{Due}
use Rattle.order_states.specs.Code.Shows.{Lends, Shows}
use Rattle.order_states.specs.Code.Snapshots.{Snapshot}
use Rattle.order_states.specs.Code.SnapshotSteps.{instruction_in, turn_in, after_in, made_in}
use Rattle.order_states.proofs.Laws.SnapshotLaws.{instruction_lent, after_shown}
use Rattle.order_states.proofs.Laws.TurnAgreed.{Shown, Turned, turn_turned}
use Rattle.matching.proofs.Laws.History.Histories.{marked}
use Rattle.matching.proofs.Laws.FromOrder.MovedLaws.{round_open}
use Rattle.matching.proofs.Laws.FromOrder.OrderKept.{OrderKept}
use Rattle.matching.proofs.Laws.FromOrder.KeptSteps.{ended_is, kept_turn}
use Rattle.matching.proofs.Laws.FromOrder.TraceMore.{some_same, trace_run_first, round_after, trace_first}
use Rattle.matching.proofs.Laws.FromOrder.TraceStepLaws.{trace_follows}
use Rattle.matching.proofs.Laws.FromOrder.TraceSteps.{Trace, traced, trace_from}
use Rattle.matching.proofs.Laws.FromOrder.TurnTraceLaws.{turn_kind}
use Rattle.order.specs.OrderSteps.{ended_count}
use Rattle.matching_plans.specs.Code.Tracing.{TraceState, noted_in, due_noted, step_noted, order_noted}
use Rattle.matching_plans.proofs.Laws.TraceHeld.{HeldTrace, after_step, step_held}

-- as many active jobs as before the step: its job has ended
depth_ends : (b : Bool) (under : ℕ) → eqb (if b then under else under + 1) under ≡ b
depth_ends true under = eq-eqb under under refl
depth_ends false under = ne_eqb (under + 1) under (λ e. omega arith)

module _ {a : Accepted} (ok : IsAccepted a) {program waits : List ℕ} {locks : Ceilings} (lends : Lends a program waits locks) where
  -- ---- one step

  module _ {s : State} (inv : Invariant a s) {r : ℕ} {t : Trace} {done : List ℕ} (kept : OrderKept a s r t done) {n : TraceState}
      (held : HeldTrace a s r t n) {byte : ℕ} {next : State} (said : AllowedStep a s byte next) where
    abbrev i : ℕ
    i = task_of_byte byte

    abbrev v : ℕ
    v = value_of_byte byte

    abbrev turn : Turn
    turn = said.turn

    abbrev x : Job
    x = said.turn.frame.job

    abbrev effect : Effect
    effect = perform (next_of a turn.frame) v turn.frame.local s.store

    good : GoodTurn a s turn × (base a x ≡ i)
    good = good_turn ok inv i said.due

    -- it is due on the arrays
    due_found : (d : Due) × (turn_in program waits locks n.state i ≡ Some d) × Shown ok lends inv held.shows i d
    due_found = found (turn_in program waits locks n.state i) refl (turn_turned ok lends inv held.shows i)
      where
        found : (o : Option Due) → turn_in program waits locks n.state i ≡ o → Turned ok lends inv held.shows i o
            → (d : Due) × (turn_in program waits locks n.state i ≡ Some d) × Shown ok lends inv held.shows i d
        found None e nobody = absurd (let nothing : none ≡ some turn = sym nobody ∙ said.due in cc)
        found (Some d) e shown = (d, e, shown)

    abbrev d : Due
    d = due_found.0

    shown : Shown ok lends inv held.shows i d
    shown = due_found.2

    turn_is : shown.turn ≡ turn
    turn_is = some_same (sym shown.due ∙ said.due)

    frame_is : d.frame ≡ turn.frame
    frame_is = sym shown.frame ∙ ap (λ (u : Turn). u.frame) turn_is

    below : turn.under ≡ reverse (take d.under n.state.stack)
    below = ap (λ (u : Turn). u.under) (sym turn_is) ∙ shown.under

    lent : (turn.frame.local.next < 16) × (instruction_in program i turn.frame.local.next ≡ next_of a turn.frame)
    lent = instruction_lent ok lends inv held.shows good.0 i good.1 d.under below shown.room

    abbrev p : Snapshot
    p = after_in n.state x d.under i effect

    made_is : made_in program n.state turn.frame d.under i v ≡ p
    unfolding made_in
    made_is =
        ap (λ (o : Instruction). after_in n.state x d.under i (perform o v turn.frame.local n.state.store))
        lent.1
        ∙ ap (λ (l : Store). after_in n.state x d.under i (perform (next_of a turn.frame) v turn.frame.local l)) held.shows.store

    ends_is : has_ended next x ≡ effect.ended
    ends_is = ended_is ok inv kept said

    -- so it is noted as it is
    noted_is : noted_in p d.under x v n ≡ after_step p x.0 v (has_ended next x) n
    unfolding noted_in after_step after_in
    noted_is =
        ap (λ (b : Bool). after_step p x.0 v b n) (depth_ends effect.ended d.under ∙ sym ends_is)

    step_is : step_noted program waits locks n byte ≡ after_step p x.0 v (has_ended next x) n
    unfolding step_noted due_noted
    step_is =
        rw (due_found.1, frame_is, lt-ltb turn.frame.local.next 16 lent.0, made_is) noted_is

    shows_next : Shows a p next
    shows_next =
        subst (λ (z : State). Shows a p z) (sym (performed_is a s v turn) ∙ said.made)
        (after_shown ok lends inv held.shows good.0 i good.1 d.under below shown.room effect)

    abbrev round_next : ℕ
    round_next = if has_ended next x then suc r else r

    abbrev trace_next : Trace
    trace_next = traced r x.0 v (has_ended next x) next.store t

    pub kept_next : OrderKept a next round_next trace_next (done ++ (byte ∷ []))
    kept_next = kept_turn ok inv kept said

    -- and the arrays hold the trace after it, if its job has room for a step more
    pub held_next : length (get_or t.marks x.0 []) < 16
        → HeldTrace a next round_next trace_next (step_noted program waits locks n byte)
    unfolding job_total
    held_next short =
        subst (HeldTrace a next round_next trace_next) (sym step_is)
        (step_held (jobs_few ok.is_timed) held kept.follows.listed kept.follows.guessed
        (round_open ok inv kept.follows good.0 (turn_kind a s i said.due)) x.0 good.0.running.job v short
        shows_next kept_next.eight (has_ended next x))

    -- its job has a step more then
    pub one_more_lem : length (get_or trace_next.marks x.0 []) ≡ suc (length (get_or t.marks x.0 []))
    unfolding traced marked job_total
    one_more_lem =
        ap length (get_or-set_same t.marks x.0 _ [] (omega (arith, kept.follows.listed, good.0.running.job)))
        ∙ length-append (get_or t.marks x.0 []) (record { round = r; value = v } ∷ [])
        ∙ omega arith

  -- ---- an order

  -- no step is lost
  marks_grow : (bytes : List ℕ) (s : State) (r : ℕ) (t : Trace) (x : ℕ) → x < length t.marks
      → length (get_or t.marks x []) ≤ length (get_or (trace_from a s r t bytes).marks x [])
  marks_grow bytes s r t x lt = omega (arith, simp length-append at (ap length ((trace_follows a bytes s r t).steps x lt)))

  -- each job has at most sixteen steps in the end
  abbrev Short : List ℕ → State → ℕ → Trace → Type 0
  Short bytes s r t = (x : ℕ) → x < job_total a → length (get_or (trace_from a s r t bytes).marks x []) ≤ 16

  abbrev Ends : State → Trace → TraceState → Type 0
  Ends end t n = HeldTrace a end (ended_count a end) t n

  held_first : (byte : ℕ) (bytes : List ℕ) {s : State} → Invariant a s → {r : ℕ} {t : Trace} {done : List ℕ}
      → OrderKept a s r t done → {n : TraceState} → HeldTrace a s r t n → {end : State} → run a s (byte ∷ bytes) ≡ some end
      → Short (byte ∷ bytes) s r t
      → ((z : State) → Invariant a z → (q : ℕ) (u : Trace) (did : List ℕ) → OrderKept a z q u did → (m : TraceState)
      → HeldTrace a z q u m → run a z bytes ≡ some end → Short bytes z q u
      → Ends end (trace_from a z q u bytes) (order_noted program waits locks m bytes))
      → Ends end (trace_from a s r t (byte ∷ bytes)) (order_noted program waits locks (step_noted program waits locks n byte) bytes)
  unfolding round_after job_total
  held_first byte bytes {s} inv {r} {t} kept {n} held {end} ran short later =
      let first = trace_run_first a s byte bytes ran in
      let said = step_says a s byte first.1 in
      let x = said.turn.frame.job.0 in
      let is_x = (good_turn ok inv (task_of_byte byte) said.due).0.running.job in
      let keeps = kept_next inv kept held said in
      let on = trace_first a s r t byte bytes said in
      let more = one_more_lem inv kept held said in
      let grows = marks_grow bytes first.0 (round_next inv kept held said) (trace_next inv kept held said) x
      (omega (arith, keeps.follows.listed)) in
      let whole : length (get_or (trace_from a s r t (byte ∷ bytes)).marks x []) ≤ 16 = short x is_x in
      let same = ap (λ (u : Trace). length (get_or u.marks x [])) on in
      let room : length (get_or t.marks x []) < 16 = omega (arith, more, grows, whole, same) in
      subst (λ (u : Trace). Ends end u (order_noted program waits locks (step_noted program waits locks n byte) bytes)) (sym on)
      (later first.0 (step_keeps ok inv byte first.1) _ _ _ keeps _ (held_next inv kept held said room) first.2
      (λ y isY. subst (λ (u : Trace). length (get_or u.marks y []) ≤ 16) on (short y isY)))

  pub order_held : (bytes : List ℕ) {s : State} → Invariant a s → {r : ℕ} {t : Trace} {done : List ℕ}
      → OrderKept a s r t done → {n : TraceState} → HeldTrace a s r t n → {end : State} → run a s bytes ≡ some end → Short bytes s r t
      → Ends end (trace_from a s r t bytes) (order_noted program waits locks n bytes)
  unfolding run trace_from order_noted
  order_held [] {s} inv {r} {t} kept {n} held {end} ran short =
      let same = some_same ran in
      subst (λ (z : State). Ends z t n) same (subst (λ (q : ℕ). HeldTrace a s q t n) (sym kept.follows.ends) held)
  order_held (byte ∷ bytes) inv kept held ran short =
      held_first byte bytes inv kept held ran short (λ z inv q u did kept m held on still. order_held bytes inv kept held on still)
