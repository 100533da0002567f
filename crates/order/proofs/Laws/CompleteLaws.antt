-- A replay accepts exactly the complete orders, and passes their end on: no byte of a complete order comes after all
-- jobs have ended, and an order that the replay accepts is short enough by itself.
-- Assumes nothing.
use Rattle.std.proofs.Math.Path.{◌≡◌, refl, ap}
use Rattle.std.proofs.Common.{sym, ◌∙◌, arith}
use Rattle.std.specs.Prelude.{ℕ, suc, ◌≤◌, true, not}
use mathlib.Core.List.{List, [], ◌∷◌}
use Rattle.std.proofs.Math.Option.{Option, none, some, bind}
use Rattle.std.proofs.Math.ListN.{length}
use Rattle.notation.specs.Checked.{passed, require}
use Rattle.notation.specs.Laws.CheckedLaws.{passed_same, bind_passed, then_passed, require_passed, require_holds, bind_goes}
use Rattle.notation.specs.Laws.TestLaws.{test_holds}
use Rattle.timing.specs.Accepted.{Accepted}
use Rattle.timing.specs.Code.IsAccepted.{IsAccepted}
use Rattle.timing.proofs.Laws.JobFacts.{jobs_few}
use Rattle.machine.specs.declared.End.{End}
use Rattle.order.specs.Code.Invariant.{Invariant}
use Rattle.order.proofs.Laws.LengthLaws.{order_short}
use Rattle.order.specs.Orders.{step, run, order_end, Complete, most_steps}
use Rattle.order.specs.Replay.{step_at, replay_from, replay}
use Rattle.order.specs.States.{State, initial, all_ended}
use Rattle.order.proofs.Laws.SlipLaws.{step_at_passed, byte_steps}
use Rattle.order.proofs.Laws.StepLaws.{step_keeps, initial_invariant}

-- its bytes are steps, and all jobs have ended after the last
pub replay_runs : (a : Accepted) (bytes : List ℕ) (s : State) (index : ℕ) {after : State}
    → replay_from a s index bytes ≡ passed after → (run a s bytes ≡ some after) × (all_ended a after ≡ true)
unfolding replay_from run bind
replay_runs a [] s index {after} e =
    let parts = then_passed (require (all_ended a s) 31 index) (passed s) e in
    let same = passed_same parts.2 in
    (ap some same, ap (all_ended a) (sym same) ∙ test_holds (all_ended a s) (require_passed (all_ended a s) 31 index parts.1))
replay_runs a (byte ∷ bytes) s index {after} e =
    let parts = then_passed (require (not (all_ended a s)) 32 index) _ e in
    let made = bind_passed (step_at a s index byte) (λ next. replay_from a next (suc index) bytes) parts.2 in
    let later = replay_runs a bytes made.0 (suc index) made.2 in
    (rw (step_at_passed a s index byte made.1) later.0, later.1)

-- ---- what an order's steps come to

module _ {a : Accepted} (ok : IsAccepted a) where
  -- steps after which all jobs have ended pass the replay
  pub run_replays : (bytes : List ℕ) {s : State} → Invariant a s → (index : ℕ) {after : State}
      → run a s bytes ≡ some after → all_ended a after ≡ true → replay_from a s index bytes ≡ passed after
  unfolding run replay_from bind
  run_replays [] {s} inv index {after} e ended =
      let same : s ≡ after = cc in
      require_holds (all_ended a s) 31 index (passed s) (ap (all_ended a) same ∙ ended) ∙ ap passed same
  run_replays (byte ∷ bytes) {s} inv index {after} e ended =
      go (step a s byte) refl e (λ next kept h. run_replays bytes kept (suc index) h ended)
    where
      go : (o : Option State) → step a s byte ≡ o → bind o (λ next. run a next bytes) ≡ some after
          → ((next : State) → Invariant a next → run a next bytes ≡ some after → replay_from a next (suc index) bytes
          ≡ passed after) → replay_from a s index (byte ∷ bytes) ≡ passed after
      go none one h later = absurd (let z : ◌≡◌ {A = ℕ} 0 1 = cc in omega arith)
      go (some next) one h later =
          byte_steps ok inv index byte bytes one ∙ later next (step_keeps ok inv byte one) h

  -- ---- complete orders

  -- a complete order passes the replay, with its end
  pub complete_replays : {order : List ℕ} {s : State} → Complete a order s → replay_from a (initial a) 0 order ≡ passed s
  complete_replays {order} whole = run_replays order (initial_invariant a) 0 whole.allowed whole.finished

  pub complete_ends : {order : List ℕ} {s : State} → Complete a order s → replay a order ≡ passed (order_end s)
  unfolding replay
  complete_ends whole = bind_goes _ (complete_replays whole)

  -- an order that passes the replay is complete, and has that end
  pub replay_complete : (order : List ℕ) {e : End} → replay a order ≡ passed e
      → (s : State) × Complete a order s × (order_end s ≡ e)
  unfolding replay
  replay_complete order h =
      let parts = bind_passed (replay_from a (initial a) 0 order) (λ s. passed (order_end s)) h in
      let runs = replay_runs a order (initial a) 0 parts.1 in
      let few : length order ≤ most_steps = omega (arith, order_short ok order runs.0, jobs_few ok.is_timed) in
      (parts.0, record { allowed = runs.0; finished = runs.1; short = few }, passed_same parts.2)
