-- What `OrderKept` says of an order so far holds after any allowed bytes, and of a complete order: every job has
-- ended, so the last round is over, and it has as many Ends as jobs.
-- Assumes nothing.
use Rattle.std.specs.Prelude.{◌≡◌, Bool}
use Rattle.std.proofs.Math.Path.{refl, ap, subst}
use Rattle.std.proofs.Common.{sym, ◌∙◌}
use Prim.Native.Nat.{ℕ, suc, ◌+◌}
use native.Mathlib.Omega.{arith}
use Rattle.std.proofs.Math.Bool.{true, false}
use mathlib.Core.List.{List, [], ◌∷◌, ◌++◌, map, append_assoc, append-nil}
use Rattle.std.proofs.Math.Option.{some}
use Rattle.std.proofs.Math.ListN.{length}
use Rattle.std.specs.Prelude.{if◌then◌else◌}
use Rattle.notation.specs.Lists.{only}
use Rattle.timing.specs.declared.Job.{Job}
use Rattle.timing.specs.Accepted.{Accepted}
use Rattle.timing.specs.Code.IsAccepted.{IsAccepted}
use Rattle.order.specs.OrderBytes.{value_of_byte}
use Rattle.order.specs.Code.Invariant.{Invariant}
use Rattle.order.specs.Orders.{run, Complete}
use Rattle.order.specs.OrderSteps.{OrderStep, steps_from, order_steps, is_end}
use Rattle.order.specs.States.{State, initial, has_ended}
use Rattle.order.proofs.Laws.StepLaws.{AllowedStep, step_says, step_keeps, initial_invariant}
use Rattle.plan.specs.Runs.{job_total}
use Rattle.matching.specs.Conversions.{end_stores, plan_of}
use Rattle.matching.proofs.Laws.FromOrder.EndedLaws.{ended_all}
use Rattle.matching.proofs.Laws.FromOrder.OrderKept.{OrderKept, kept_initial}
use Rattle.matching.proofs.Laws.FromOrder.OrderStepLaws.{step_made, steps_first, order_counted}
use Rattle.matching.proofs.Laws.FromOrder.KeptSteps.{kept_turn}
use Rattle.matching.proofs.Laws.History.PlanReading.{written}
use Rattle.matching.proofs.Laws.FromOrder.TraceMore.{trace_run_first, trace_first, round_after}
use Rattle.matching.proofs.Laws.FromOrder.TraceStepLaws.{plan_traced}
use Rattle.matching.proofs.Laws.FromOrder.TraceSteps.{Trace, traced, trace_from, start_trace, trace_of}

-- ---- the first byte

module _ {a : Accepted} {s : State} {byte : ℕ} {next : State} (said : AllowedStep a s byte next) (r : ℕ) (bytes : List ℕ) where
  abbrev x : Job
  x = said.turn.frame.job

  abbrev pub round_next : ℕ
  round_next = if has_ended next x then suc r else r

  abbrev pub trace_next : Trace → Trace
  trace_next t = traced r x.0 (value_of_byte byte) (has_ended next x) next.store t

  -- the trace goes on from that of the first step
  trace_on : (t : Trace) → trace_from a s r t (byte ∷ bytes) ≡ trace_from a next round_next (trace_next t) bytes
  unfolding round_after
  trace_on t = trace_first a s r t byte bytes said

  -- and so do the stores after the Ends, of which there is one more if the step is one
  stores_on : r + length (end_stores (steps_from a s (byte ∷ bytes))) ≡ round_next + length (end_stores (steps_from a next bytes))
  unfolding end_stores only is_end
  stores_on =
      ap (λ (made : List OrderStep). r + length (end_stores made)) (steps_first bytes said) ∙ count (has_ended next x)
    where
      count : (b : Bool) → let rest = only is_end (steps_from a next bytes) in
          r + length (map (λ (one : OrderStep). one.after.store) (if b then step_made said ∷ rest else rest))
          ≡ (if b then suc r else r) + length (map (λ (one : OrderStep). one.after.store) rest)
      count true = omega arith
      count false = refl

-- ---- any bytes

-- what the bytes of a run lead to: the round, and the trace and the stores up to it
pub record Arrives (a : Accepted) (s : State) (r : ℕ) (t : Trace) (bytes done : List ℕ) (end : State) : Type 0 where
  pub round : ℕ
  pub kept : OrderKept a end round (trace_from a s r t bytes) (done ++ bytes)
  pub stores : r + length (end_stores (steps_from a s bytes)) ≡ round

pub kept_run : {a : Accepted} → IsAccepted a
    → (bytes : List ℕ) (s : State) (r : ℕ) (t : Trace) (done : List ℕ) {end : State} → Invariant a s
    → OrderKept a s r t done → run a s bytes ≡ some end → Arrives a s r t bytes done end
unfolding run trace_from steps_from end_stores only
kept_run {a} ok [] s r t done {end} inv kept e =
    let same : s ≡ end = cc in
    record {
      round = r;
      kept = subst (λ (n : State). OrderKept a n r t (done ++ [])) same (subst (OrderKept a s r t) (sym (append-nil done)) kept);
      stores = omega arith;
    }
kept_run {a} ok (byte ∷ bytes) s r t done {end} inv kept e =
    let first = trace_run_first a s byte bytes e in
    let said = step_says a s byte first.1 in
    let rest = kept_run ok bytes first.0 (round_next said r bytes) (trace_next said r bytes t) (done ++ (byte ∷ []))
    (step_keeps ok inv byte first.1) (kept_turn ok inv kept said) first.2 in
    record {
      round = rest.round;
      kept =
          subst (λ (u : Trace). OrderKept a end rest.round u (done ++ (byte ∷ bytes))) (sym (trace_on said r bytes t))
          (subst (OrderKept a end rest.round _) (append_assoc done (byte ∷ []) bytes) rest.kept);
      stores = stores_on said r bytes ∙ rest.stores;
    }

-- ---- a complete order

module _ {a : Accepted} (ok : IsAccepted a) {order : List ℕ} {s : State} (complete : Complete a order s) where
  arrives : Arrives a (initial a) 0 (start_trace a) order [] s
  arrives = kept_run ok order (initial a) 0 (start_trace a) [] (initial_invariant a) (kept_initial ok) complete.allowed

  last_round_lem : arrives.round ≡ job_total a
  last_round_lem = sym arrives.kept.follows.ends ∙ ended_all a s complete.finished

  -- after a complete order
  pub kept_complete : OrderKept a s (job_total a) (trace_of a order) order
  unfolding trace_of
  kept_complete = subst (λ (n : ℕ). OrderKept a s n (trace_of a order) order) last_round_lem arrives.kept

  -- each End left a store
  stores_complete : length (end_stores (order_steps a order)) ≡ job_total a
  unfolding order_steps
  stores_complete = omega (arith, arrives.stores, last_round_lem)

  -- so its plan is the one with the trace's guesses and marks
  pub complete_traced : plan_of a order ≡ written a (trace_of a order).guesses (trace_of a order).marks
  complete_traced = plan_traced a order (order_counted ok order complete.allowed) (omega (arith, stores_complete))
