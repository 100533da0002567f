-- Laws of the moves of a state: the bytes below the level, and what each part of a search has found.
-- Assumes nothing.
use Rattle.order.specs.OrderBytes.{task_of_byte, value_of_byte}
use Rattle.std.specs.Prelude.{◌≡◌, refl, ℕ, ◌+◌, ◌*◌, ◌/◌, ◌≤◌, ◌<◌, Bool, true, false, List, eqb}
use Rattle.std.proofs.Common.{subst, inl, inr, arith, eqb-true}
use Rattle.std.proofs.Math.Decide.{dec_lt}
use Rattle.std.proofs.lemmas.Bool.{eqb-false}
use Rattle.taskfile.specs.declared.Ceilings.{Ceilings}
use Rattle.notation.specs.Laws.TestLaws.{test_decided}
use Rattle.order_states.specs.Code.Snapshots.{Snapshot}
use Rattle.order_states.specs.Code.SnapshotSteps.{level_in, starts_above, step_in}
use Rattle.walk_moves.specs.Laws.AllowedLaws.{level_bounded, allowed_top, allowed_start}
use Rattle.walk_moves.specs.Laws.DueLaws.{turn_top, turn_start, turn_idle, low_idle, high_other}
use Rattle.walk_moves.specs.Laws.NextLaws.{idle_refused, idle_none, none_joined, next_joined}
use Rattle.walk_moves.specs.Laws.PositionLaws.{at_top, at_start_lem, start_first}
use Rattle.walk_moves.specs.Code.MoveParts.{NoStep, NextStep, FirstStart, StepOf, position_in, running_task}

-- a search that began at a task's value 0 began at its first byte
from_zero : (i : ℕ) → 16 * i + 0 ≡ 16 * i
from_zero i = omega arith

-- ---- the starts from a task on

module _ (program waits : List ℕ) (locks : Ceilings) (p : Snapshot) {low : ℕ} (level : low ≡ level_in program locks p)
    (i k : ℕ) (small : k < 8) (high : low ≤ i) (ahead : i ≤ k)
    (before : NoStep program waits locks p (16 * i) (16 * k)) {b : Bool}
    (starts : b ≡ starts_above program waits low p k) where
  other : k ≡ running_task program p → ⊥
  other = high_other program p k small refl locks (omega (arith, level))

  -- task k may not start
  pub starts_passed : b ≡ false → NoStep program waits locks p (16 * i) (16 * (k + 1))
  starts_passed h =
      none_joined program waits locks p (16 * i) (16 * k) before (16 * (k + 1))
      (idle_none program waits locks p k (turn_idle program p k small refl waits locks other level starts h))

  -- it may, and its first byte that is a step is known
  module _ (h : b ≡ true) {m : ℕ} (found : StepOf program k 0 0 m) where
    of_start : (m < 128 → NextStep program waits locks p (16 * k + 0) m)
        × (128 ≤ m → NoStep program waits locks p (16 * k + 0) (16 * (k + 1)))
    of_start =
        found waits locks p _ (turn_start program p k small refl waits locks other level starts h)
        (start_first p k)

    pub starts_refused : 128 ≤ m → NoStep program waits locks p (16 * i) (16 * (k + 1))
    starts_refused none =
        none_joined program waits locks p (16 * i) (16 * k) before (16 * (k + 1))
        (subst (λ (n : ℕ). NoStep program waits locks p n (16 * (k + 1))) (from_zero k) (of_start.1 none))

    pub starts_found : m < 128 → NextStep program waits locks p (16 * i) m
    starts_found some =
        next_joined program waits locks p (16 * i) (16 * k) before (omega arith)
        (subst (λ (n : ℕ). NextStep program waits locks p n m) (from_zero k) (of_start.0 some))

-- ---- the bytes below the level

module _ (program waits : List ℕ) (locks : Ceilings) (p : Snapshot) {top : ℕ}
    (running : top ≡ running_task program p) where
  -- none is a step, those of the running job's task apart
  low_refused : (k : ℕ) → k < 16 * level_in program locks p → (k / 16 ≡ top → ⊥)
      → (step_in program waits locks p k).allowed ≡ false
  low_refused k lt other =
      let small : k / 16 < 8 = omega (arith, level_bounded program locks p) in
      idle_refused program waits locks p (k / 16)
      (low_idle program p (k / 16) small running waits locks other (omega arith)) k refl

  -- the running job's task is below the level
  top_low : top < 8 → top < level_in program locks p
  top_low near =
      elim (dec_lt top (level_in program locks p)) [
        | yes lt ↦ lt
        | no ge ↦ absurd (high_other program p top near running locks (omega arith) refl)
      ]

  module _ {start : ℕ} (first : FirstStart program waits locks p start) where
    -- so the first start comes after the bytes of that task, and after any where there is no such task
    pub next_start : 8 ≤ top → NextStep program waits locks p 0 start
    next_start far =
        next_joined program waits locks p 0 (16 * level_in program locks p)
        (λ k low high. low_refused k high (λ here. omega (arith, level_bounded program locks p))) (omega arith) first

    pub start_after : top < 8 → (byte : ℕ) → byte ≤ 16 * (top + 1)
        → NoStep program waits locks p byte (16 * (top + 1)) → NextStep program waits locks p byte start
    start_after near byte low before =
        next_joined program waits locks p byte (16 * level_in program locks p)
        (none_joined program waits locks p byte (16 * (top + 1)) before (16 * level_in program locks p)
        (λ k le lt. low_refused k lt (λ here. omega arith)))
        (omega (arith, top_low near)) first

  -- ---- the first move

  module _ (near : top < 8) {n : ℕ} (at : n ≡ position_in p top top) {m : ℕ} (found : StepOf program top n 0 m) where
    of_top : (m < 128 → NextStep program waits locks p (16 * top + 0) m)
        × (128 ≤ m → NoStep program waits locks p (16 * top + 0) (16 * (top + 1)))
    of_top =
        found waits locks p _ (turn_top program p top near running waits locks refl)
        (at_top p top top refl at)

    -- no byte of a task below the running job's is a step
    before_top : NoStep program waits locks p 0 (16 * top)
    before_top k low high = low_refused k (omega (arith, top_low near)) (λ here. omega arith)

    pub first_found : m < 128 → NextStep program waits locks p 0 m
    first_found some =
        next_joined program waits locks p 0 (16 * top) before_top (omega arith)
        (subst (λ (l : ℕ). NextStep program waits locks p l m) (from_zero top) (of_top.0 some))

    pub first_refused : 128 ≤ m → {start : ℕ} → FirstStart program waits locks p start
        → NextStep program waits locks p 0 start
    first_refused none first =
        start_after first near 0 (omega arith)
        (none_joined program waits locks p 0 (16 * top) before_top (16 * (top + 1))
        (subst (λ (l : ℕ). NoStep program waits locks p l (16 * (top + 1))) (from_zero top) (of_top.1 none)))

  -- ---- the move after one

  module _ (byte : ℕ) (small : byte < 128) (allowed : (step_in program waits locks p byte).allowed ≡ true)
      {n : ℕ} (at : n ≡ position_in p top (task_of_byte byte)) {m : ℕ}
      (found : StepOf program (task_of_byte byte) n (value_of_byte byte + 1) m) where
    abbrev Found : ℕ → Type 0
    Found first =
        (m < 128 → NextStep program waits locks p first m)
        × (128 ≤ m → NoStep program waits locks p first (16 * (task_of_byte byte + 1)))

    of_task_lem : Found (byte + 1)
    of_task_lem =
        let same : 16 * (task_of_byte byte) + (value_of_byte byte + 1) ≡ byte + 1 = omega arith in
        subst Found same (elim (test_decided (eqb (task_of_byte byte) top)) [
          | inl e ↦
              let here = eqb-true (task_of_byte byte) top e in
              found waits locks p _ (allowed_top program waits locks p byte allowed small running here)
              (at_top p top (task_of_byte byte) here at)
          | inr e ↦
              let other = eqb-false (task_of_byte byte) top e in
              found waits locks p _ (allowed_start program waits locks p byte allowed small running other)
              (at_start_lem p top (task_of_byte byte) other at)
        ])

    pub after_found : m < 128 → NextStep program waits locks p (byte + 1) m
    after_found some = of_task_lem.0 some

    -- after the running job's last, the first start
    pub after_top : 128 ≤ m → task_of_byte byte ≡ top → {start : ℕ} → FirstStart program waits locks p start
        → NextStep program waits locks p (byte + 1) start
    after_top none here first =
        let upto : 16 * (task_of_byte byte + 1) ≡ 16 * (top + 1) = omega arith in
        start_after first (omega arith) (byte + 1) (omega arith)
        (subst (NoStep program waits locks p (byte + 1)) upto (of_task_lem.1 none))

    -- after a start's last, the first start of a task further on
    pub after_start : 128 ≤ m → {r : ℕ} → NextStep program waits locks p (16 * (task_of_byte byte + 1)) r
        → NextStep program waits locks p (byte + 1) r
    after_start none later =
        next_joined program waits locks p (byte + 1) (16 * (task_of_byte byte + 1)) (of_task_lem.1 none) (omega arith) later
