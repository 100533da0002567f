-- An order's trace with one byte more is the trace with that byte's step.
-- Assumes nothing.
use Rattle.std.specs.Prelude.{◌≡◌, ℕ, suc, ◌%◌, false}
use Rattle.std.proofs.Math.Path.{refl, sym, ap}
use Rattle.std.proofs.Common.{subst, ◌∙◌}
use Rattle.std.proofs.Math.Logic.{inl, inr}
use Rattle.std.proofs.Math.Decide.{ℕ_discrete}
use mathlib.Core.List.{List, [], ◌∷◌, ◌++◌}
use Rattle.std.proofs.Math.Option.{some, bind, bind-eq-some_iff}
use Rattle.std.specs.Prelude.{if◌then◌else◌}
use Rattle.notation.specs.Laws.TestLaws.{test_decided}
use Rattle.timing.specs.declared.Job.{Job}
use Rattle.timing.specs.Accepted.{Accepted}
use Rattle.timing.specs.Code.IsAccepted.{IsAccepted}
use Rattle.machine.specs.Instructions.{perform}
use Rattle.order.specs.OrderBytes.{task_of_byte, value_of_byte}
use Rattle.order.specs.Code.Invariant.{Invariant}
use Rattle.order.specs.Orders.{next_of, step, run}
use Rattle.order.specs.States.{State, has_ended}
use Rattle.order.proofs.Laws.StepLaws.{GoodTurn, good_turn, ended_other, AllowedStep, step_says, step_keeps}
use Rattle.matching.proofs.Laws.FromOrder.EndedLaws.{ended_same, ended_more}
use Rattle.matching.proofs.Laws.History.Histories.{job}
use Rattle.order.specs.OrderSteps.{ended_count}
use Rattle.matching.proofs.Laws.FromOrder.TraceSteps.{Trace, traced, trace_from}
use Rattle.matching.proofs.Laws.FromOrder.TurnTraceLaws.{step_after}

-- ---- runs

pub some_same : {A : Type 0} {x y : A} → some x ≡ some y → x ≡ y
some_same e = cc

module _ (a : Accepted) where
  -- a run's first byte is a step, and the others run on from there
  pub trace_run_first : (s : State) (byte : ℕ) (bytes : List ℕ) {end : State} → run a s (byte ∷ bytes) ≡ some end
      → (next : State) × (step a s byte ≡ some next) × (run a next bytes ≡ some end)
  unfolding run
  trace_run_first s byte bytes e = (bind-eq-some_iff (step a s byte) (λ next. run a next bytes)).0 e

  run_on : (s : State) (byte : ℕ) (bytes : List ℕ) {next : State} → step a s byte ≡ some next
      → run a s (byte ∷ bytes) ≡ run a next bytes
  unfolding run bind
  run_on s byte bytes e = rw e refl

  -- one byte more is one step more
  pub run_more : (bytes : List ℕ) (s : State) {mid : State} → run a s bytes ≡ some mid → (byte : ℕ) {after : State}
      → step a mid byte ≡ some after → run a s (bytes ++ (byte ∷ [])) ≡ some after
  unfolding run bind
  run_more [] s ran byte e = ap (λ (z : State). run a z (byte ∷ [])) (some_same ran) ∙ rw e refl
  run_more (b ∷ bytes) s ran byte e =
      let first = trace_run_first s b bytes ran in
      run_on s b (bytes ++ (byte ∷ [])) first.1 ∙ run_more bytes first.0 first.2 byte e

-- every step of a run keeps the invariant
pub run_invariant : {a : Accepted} → IsAccepted a → (bytes : List ℕ) {s mid : State} → Invariant a s
    → run a s bytes ≡ some mid → Invariant a mid
unfolding run
run_invariant {a} ok [] inv ran = subst (Invariant a) (some_same ran) inv
run_invariant {a} ok (b ∷ bytes) {s} inv ran =
    let first = trace_run_first a s b bytes ran in
    run_invariant ok bytes (step_keeps ok inv b first.1) first.2

pub more_invariant : {a : Accepted} → IsAccepted a → (bytes : List ℕ) {s mid : State} → Invariant a s
    → run a s bytes ≡ some mid → (byte : ℕ) {after : State} → step a mid byte ≡ some after
    → Invariant a mid × Invariant a after
more_invariant ok bytes inv ran byte e =
    let here = run_invariant ok bytes inv ran in
    (here, step_keeps ok here byte e)

-- ---- the round after a step

-- the round after a step of the job x
unfoldable pub round_after : ℕ → State → Job → ℕ
round_after r after x = if has_ended after x then suc r else r

module _ {a : Accepted} (ok : IsAccepted a) {s : State} (inv : Invariant a s) {byte : ℕ} {after : State} (made : AllowedStep a s byte after) where
  abbrev x : Job
  x = made.turn.frame.job

  good : GoodTurn a s made.turn
  good = (good_turn ok inv (task_of_byte byte) made.due).0

  -- the step leaves the other jobs as they were
  pub others_same : (y : Job) → (y.0 ≡ x.0 → ⊥) → has_ended after y ≡ has_ended s y
  others_same y apart =
      let effect = perform (next_of a made.turn.frame) (value_of_byte byte) made.turn.frame.local s.store in
      ap (λ (z : State). has_ended z y) (sym (step_after made))
      ∙ ended_other ok inv good effect y apart

  -- where its job goes on, all are as they were
  all_same : has_ended after x ≡ false → (y : Job) → has_ended after y ≡ has_ended s y
  unfolding has_ended
  all_same goes y =
      elim (ℕ_discrete y.0 x.0) [
        | yes same ↦ rw same (goes ∙ sym good.running.unended)
        | no apart ↦ others_same y apart
      ]

  -- a round ends with a job's End, so it stays the number of jobs that have ended
  pub round_kept : round_after (ended_count a s) after x ≡ ended_count a after
  unfolding round_after
  round_kept =
      elim (test_decided (has_ended after x)) [
        | inl ended ↦ rw ended (sym (ended_more a s after x good.running.job good.running.unended ended (λ y isJob apart. others_same y apart)))
        | inr goes ↦ rw goes (sym (ended_same a s after (λ y isJob. all_same goes y)))
      ]

-- ---- the trace

-- the trace after the first step
pub trace_first : (a : Accepted) (s : State) (r : ℕ) (t : Trace) (byte : ℕ) (bytes : List ℕ) {after : State} → (made : AllowedStep a s byte after)
    → let x = made.turn.frame.job in
    trace_from a s r t (byte ∷ bytes)
    ≡ trace_from a after (round_after r after x) (traced r x.0 (value_of_byte byte) (has_ended after x) after.store t) bytes
unfolding round_after trace_from
trace_first a s r t byte bytes made =
    let x = made.turn.frame.job in
    rw (made.due, trace_from)
    (ap (λ (z : State). trace_from a z (if has_ended z x then suc r else r) (traced r x.0 (value_of_byte byte) (has_ended z x) z.store t) bytes) made.made)

module _ {a : Accepted} (ok : IsAccepted a) where
  -- of one byte
  trace_one : (s : State) (r : ℕ) → r ≡ ended_count a s → (t : Trace) (byte : ℕ) {after : State} → (e : step a s byte ≡ some after)
      → let x = (step_says a s byte e).turn.frame.job.0 in
      trace_from a s r t (byte ∷ []) ≡ traced (ended_count a s) x (value_of_byte byte) (has_ended after (job x)) after.store t
  unfolding trace_from job
  trace_one s r same t byte {after} e =
      let x = (step_says a s byte e).turn.frame.job in
      trace_first a s r t byte [] (step_says a s byte e)
      ∙ ap (λ (q : ℕ). traced q x.0 (value_of_byte byte) (has_ended after x) after.store t) same

  -- with one byte more
  pub trace_more : (bytes : List ℕ) {s : State} → Invariant a s → (r : ℕ) → r ≡ ended_count a s → (t : Trace) {mid : State}
      → run a s bytes ≡ some mid → (byte : ℕ) {after : State} → (e : step a mid byte ≡ some after)
      → let x = (step_says a mid byte e).turn.frame.job.0 in
      trace_from a s r t (bytes ++ (byte ∷ []))
      ≡ traced (ended_count a mid) x (value_of_byte byte) (has_ended after (job x)) after.store (trace_from a s r t bytes)
  unfolding run trace_from
  trace_more [] {s} inv r same t {mid} ran byte e =
      let here = some_same ran in
      ap (λ (z : State). trace_from a z r t (byte ∷ [])) here ∙ trace_one mid r (same ∙ ap (ended_count a) here) t byte e
  trace_more (b ∷ bytes) {s} inv r same t {mid} ran byte {after} e =
      let first = trace_run_first a s b bytes ran in
      let made = step_says a s b first.1 in
      let y = made.turn.frame.job in
      let next = first.0 in
      let round = ap (λ (q : ℕ). round_after q next y) same ∙ round_kept ok inv made in
      let now = traced r y.0 (b % 16) (has_ended next y) next.store t in
      let x = (step_says a mid byte e).turn.frame.job.0 in
      trace_first a s r t b (bytes ++ (byte ∷ [])) made
      ∙ trace_more bytes (step_keeps ok inv b first.1) (round_after r next y) round now first.2 byte e
      ∙ ap (traced (ended_count a mid) x (value_of_byte byte) (has_ended after (job x)) after.store) (sym (trace_first a s r t b bytes made))
