-- Laws of an order's steps: the first of them, those of an order that is cut, and their rounds, which are the numbers
-- of jobs that have ended before each.
-- Assumes nothing.
use Rattle.std.specs.Prelude.{◌≡◌, refl, ℕ, List, [], ◌∷◌, ◌++◌, map}
use Rattle.std.proofs.Common.{sym, ap, ◌∙◌}
use Rattle.std.proofs.Math.Option.{some}
use Rattle.timing.specs.declared.Job.{Job}
use Rattle.timing.specs.Accepted.{Accepted}
use Rattle.timing.specs.Code.IsAccepted.{IsAccepted}
use Rattle.order.specs.OrderBytes.{value_of_byte}
use Rattle.order.specs.Code.Invariant.{Invariant}
use Rattle.order.specs.Orders.{run}
use Rattle.order.specs.OrderSteps.{OrderStep, steps_from, order_steps, is_end, ended_count}
use Rattle.order.specs.States.{State, initial}
use Rattle.order.proofs.Laws.StepLaws.{AllowedStep, step_says, step_keeps, initial_invariant}
use Rattle.matching.proofs.Laws.FromOrder.EndedLaws.{ended_none}
use Rattle.matching.proofs.Laws.FromOrder.TraceMore.{some_same, trace_run_first, round_after, round_kept}
use Rattle.matching.proofs.Laws.FromOrder.TraceSteps.{NotedStep, numbered, counted_step, RoundsCounted}

-- the step that an allowed byte makes
abbrev pub step_made : {a : Accepted} {s : State} {byte : ℕ} {after : State} → AllowedStep a s byte after → OrderStep
step_made {a} {s} {byte} {after} made =
    record { job = made.turn.frame.job; value = value_of_byte byte; before = s; after = after }

-- it is the first of those that the bytes make, and the others go on from the state after it
pub steps_first : {a : Accepted} {s : State} {byte : ℕ} (bytes : List ℕ) {after : State}
    → (made : AllowedStep a s byte after) → steps_from a s (byte ∷ bytes) ≡ step_made made ∷ steps_from a after bytes
unfolding steps_from
steps_first {a} {s} {byte} bytes made =
    let x : Job = made.turn.frame.job in
    rw (made.due, steps_from)
    (ap (λ (z : State). record { job = x; value = value_of_byte byte; before = s; after = z } ∷ steps_from a z bytes) made.made)

-- the steps of an order that is cut are those of its first bytes, then those of the others
pub steps_cut : (a : Accepted) (earlier bytes : List ℕ) (s : State) {mid : State} → run a s earlier ≡ some mid
    → steps_from a s (earlier ++ bytes) ≡ steps_from a s earlier ++ steps_from a mid bytes
unfolding run steps_from
steps_cut a [] bytes s ran = ap (λ (z : State). steps_from a z bytes) (some_same ran)
steps_cut a (byte ∷ earlier) bytes s {mid} ran =
    let first = trace_run_first a s byte earlier ran in
    let made = step_says a s byte first.1 in
    steps_first (earlier ++ bytes) made
    ∙ ap (λ (l : List OrderStep). step_made made ∷ l) (steps_cut a earlier bytes first.0 first.2)
    ∙ ap (λ (l : List OrderStep). l ++ steps_from a mid bytes) (sym (steps_first earlier made))

-- rounds that go on at each End are the numbers of jobs that have ended
pub rounds_counted : {a : Accepted} → IsAccepted a → (bytes : List ℕ) {s : State} → Invariant a s
    → {end : State} → run a s bytes ≡ some end → (r : ℕ) → r ≡ ended_count a s
    → numbered r (steps_from a s bytes) ≡ map (counted_step a) (steps_from a s bytes)
unfolding run steps_from numbered counted_step is_end round_after
rounds_counted ok [] inv ran r same = refl
rounds_counted {a} ok (byte ∷ bytes) {s} inv ran r same =
    let first = trace_run_first a s byte bytes ran in
    let next : State = first.0 in
    let made = step_says a s byte first.1 in
    let x : Job = made.turn.frame.job in
    let round = ap (λ (q : ℕ). round_after q next x) same ∙ round_kept ok inv made in
    let later = rounds_counted ok bytes (step_keeps ok inv byte first.1) first.2 (round_after r next x) round in
    let one : ℕ → NotedStep = λ q. record { job = x; round = q; value = value_of_byte byte } in
    ap (numbered r) (steps_first bytes made)
    ∙ (λ i. one (same i) ∷ later i)
    ∙ sym (ap (map (counted_step a)) (steps_first bytes made))

-- of a whole order
pub order_counted : {a : Accepted} → IsAccepted a → (order : List ℕ) {end : State} → run a (initial a) order ≡ some end
    → RoundsCounted a order
unfolding order_steps
order_counted {a} ok order ran = rounds_counted ok order (initial_invariant a) ran 0 (sym (ended_none a))
