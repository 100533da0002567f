-- Laws of a traced order on arrays, a case of its definition each: what the tests that the code has made come to.
-- Assumes nothing.
use Rattle.order.specs.OrderBytes.{task_of_byte, value_of_byte}
use Rattle.std.specs.Prelude.{◌≡◌, ℕ, suc, ◌+◌, ◌≤◌, ◌<◌, List, length, get_or, drop, Option, Some, None}
use Rattle.std.proofs.Math.Path.{refl, sym, ap}
use Rattle.std.proofs.Common.{◌∙◌, arith, add-one, drop_of_length-le, drop-cons}
use Rattle.std.proofs.Math.Decide.{dec_lt}
use borrow.Author.Tests.{lt-ltb, le-ltb, eq-eqb, ne_eqb}
use Rattle.notation.specs.Laws.TabulateLaws.{values_length}
use Rattle.notation.specs.Lists.{bytes_at}
use Rattle.taskfile.specs.declared.Ceilings.{Ceilings}
use Rattle.machine.specs.Instructions.{Store}
use Rattle.plan.specs.declared.Round.{Round}
use Rattle.order_states.specs.declared.Due.{Due}
use Rattle.order_states.specs.Code.Snapshots.{Snapshot}
use Rattle.order_states.specs.Code.SnapshotSteps.{turn_in, made_in}
use Rattle.order_states.specs.Code.StateBytes.{snapshot_in}
use Rattle.plan_marks.specs.declared.Marks.{Marks}
use Rattle.plan_marks.specs.Code.Marks.{step_count, with_mark, with_store}
use Rattle.plan_marks.specs.Laws.StoreLaws.{put_length}
use Rattle.matching_plans.specs.Code.Tracing.{TraceState, note_in, guess_in, round_in, noted_in, due_noted, step_noted, order_noted}
use Rattle.matching_plans.specs.Code.Tracing.{noted_of, with_step, in_next_round}
use Rattle.matching_plans.specs.declared.Trace.{Trace}

-- ---- a mark

module _ (t : Trace) (x value : ℕ) {n : ℕ} (counted : n ≡ step_count t.marks x) where
  pub note_room : n < 16 → {after : Marks}
      → after ≡ with_mark t.marks x n (record { round = t.round; value = value; priority_after = 0 })
      → record { state = snapshot_in t.state.bytes; round = t.round.0; marks = after; guesses = t.guesses }
      ≡ with_step (noted_of t) x value
  unfolding note_in
  note_room lt {after} is =
      ap (λ (m : Marks). record { state = snapshot_in t.state.bytes; round = t.round.0; marks = m; guesses = t.guesses })
      (is
      ∙ ap (λ (k : ℕ). with_mark t.marks x k (record { round = t.round; value = value; priority_after = 0 })) counted
      ∙ rw (lt-ltb (step_count t.marks x) 16 (omega (arith, counted))) refl)

  pub note_full : 16 ≤ n → noted_of t ≡ with_step (noted_of t) x value
  unfolding note_in
  note_full le = rw (le-ltb (step_count t.marks x) 16 (omega (arith, counted))) refl

-- ---- the next round

-- of any state's bytes: the last round, and any other
pub last_kept : (r : Round) → 31 ≤ r.0 → (guesses s : List ℕ)
    → (r.0 ≡ round_in r.0) × (guesses ≡ guess_in guesses r.0 (bytes_at s 0 8))
unfolding round_in guess_in
last_kept r le guesses s = rw (le-ltb r.0 31 le) (refl, refl)

pub next_noted : (r : Round) → r.0 < 31 → (guesses s : List ℕ) {store : Store} {after : List ℕ} → store ≡ bytes_at s 0 8
    → after ≡ with_store guesses (r.0 + 1) store
    → (r.0 + 1 ≡ round_in r.0) × (after ≡ guess_in guesses r.0 (bytes_at s 0 8))
unfolding round_in guess_in
next_noted r lt guesses s same put =
    rw (lt-ltb r.0 31 lt) (refl, put ∙ ap (with_store guesses (r.0 + 1)) same)

-- and of a trace
pub round_on : (t : Trace) {after : List ℕ} {q : Round} → q.0 ≡ round_in t.round.0
    → after ≡ guess_in t.guesses t.round.0 (bytes_at t.state.bytes 0 8)
    → record { state = snapshot_in t.state.bytes; round = q.0; marks = t.marks; guesses = after }
    ≡ in_next_round (noted_of t)
unfolding snapshot_in
round_on t is put = λ i. record {
  state = snapshot_in t.state.bytes;
  round = is i;
  marks = t.marks;
  guesses = put i;
}

module _ (t : Trace) where
  pub round_last : 31 ≤ t.round.0 → noted_of t ≡ in_next_round (noted_of t)
  unfolding round_in guess_in
  round_last le = rw (le-ltb t.round.0 31 le) refl

  pub round_next_lem : t.round.0 < 31 → {store : Store} {after : List ℕ} → store ≡ bytes_at t.state.bytes 0 8
      → after ≡ with_store t.guesses (t.round.0 + 1) store
      → record { state = snapshot_in t.state.bytes; round = t.round.0 + 1; marks = t.marks; guesses = after }
      ≡ in_next_round (noted_of t)
  unfolding round_in guess_in snapshot_in
  round_next_lem lt {store} {after} same put =
      let put_there = put ∙ ap (with_store t.guesses (t.round.0 + 1)) same in
      rw (lt-ltb t.round.0 31 lt) (ap
      (λ (g : List ℕ). record { state = snapshot_in t.state.bytes; round = t.round.0 + 1; marks = t.marks; guesses = g })
      put_there)

pub guess_room : (guesses : List ℕ) → length guesses ≡ 256 → (r : ℕ) (store : Store) → length store ≡ 8
    → length (guess_in guesses r store) ≡ 256
unfolding guess_in
guess_room guesses room r store eight =
    elim (dec_lt r 31) [
      | yes lt ↦ rw (lt-ltb r 31 lt) (put_length guesses room (r + 1) (omega arith) store eight ∙ room)
      | no le ↦ rw (le-ltb r 31 (omega arith)) room
    ]

-- a store is eight bytes
pub eight_bytes : (s : List ℕ) → length (bytes_at s 0 8) ≡ 8
unfolding bytes_at
eight_bytes s = values_length (λ k. get_or s (0 + k) 0) 8

-- ---- a step

module _ (program waits : List ℕ) (locks : Ceilings) (t : Trace) (byte : ℕ) where
  of_due : {o : Option Due} → o ≡ turn_in program waits locks (snapshot_in t.state.bytes) (task_of_byte byte)
      → {after : TraceState} → after ≡ due_noted program (task_of_byte byte) (value_of_byte byte) o (noted_of t)
      → after ≡ step_noted program waits locks (noted_of t) byte
  unfolding step_noted
  of_due is e = e ∙ ap (λ (o : Option Due). due_noted program (task_of_byte byte) (value_of_byte byte) o (noted_of t)) is

  -- nobody is due
  pub noting_idle : None ≡ turn_in program waits locks (snapshot_in t.state.bytes) (task_of_byte byte)
      → noted_of t ≡ step_noted program waits locks (noted_of t) byte
  unfolding due_noted
  noting_idle is = of_due is refl

  module _ {d : Due} (is : Some d ≡ turn_in program waits locks (snapshot_in t.state.bytes) (task_of_byte byte)) where
    -- no job is so far
    pub noting_beyond : 16 ≤ d.frame.local.next → noted_of t ≡ step_noted program waits locks (noted_of t) byte
    unfolding due_noted
    noting_beyond le = of_due is (rw (le-ltb d.frame.local.next 16 le) refl)

    -- a step is made, and noted
    module _ (lt : d.frame.local.next < 16) {p : Snapshot}
        (made : p ≡ made_in program (snapshot_in t.state.bytes) d.frame d.under (task_of_byte byte) (value_of_byte byte))
        {noted : TraceState} (is_noted : noted ≡ with_step
        (record { state = p; round = t.round.0; marks = t.marks; guesses = t.guesses }) d.frame.job.0 (value_of_byte byte)) where
      step_is : step_noted program waits locks (noted_of t) byte
          ≡ noted_in p d.under d.frame.job (value_of_byte byte) (noted_of t)
      unfolding due_noted
      step_is =
          sym (of_due is
          (ap (λ (q : Snapshot). noted_in q d.under d.frame.job (value_of_byte byte) (noted_of t)) made
          ∙ rw (lt-ltb d.frame.local.next 16 lt) refl))

      depth_is : noted.state.depth ≡ p.depth
      depth_is = ap (λ (n : TraceState). n.state.depth) is_noted

      -- which ends its job
      pub noting_ends : noted.state.depth ≡ d.under → {next : TraceState} → next ≡ in_next_round noted
          → next ≡ step_noted program waits locks (noted_of t) byte
      unfolding noted_in
      noting_ends ends on =
          on ∙ ap in_next_round is_noted ∙ sym (step_is ∙ rw (eq-eqb p.depth d.under (sym depth_is ∙ ends)) refl)

      -- or does not
      pub noting_goes : (noted.state.depth ≡ d.under → ⊥) → noted ≡ step_noted program waits locks (noted_of t) byte
      unfolding noted_in
      noting_goes goes =
          is_noted ∙ sym (step_is ∙ rw (ne_eqb p.depth d.under (λ ends. goes (depth_is ∙ ends))) refl)

-- ---- an order

-- the whole trace is that of the bytes from an index on, from where it stands
abbrev pub Reaches : List ℕ → List ℕ → Ceilings → TraceState → List ℕ → TraceState → ℕ → Type 0
Reaches program waits locks start order n index =
    order_noted program waits locks start order ≡ order_noted program waits locks n (drop index order)

module _ (program waits : List ℕ) (locks : Ceilings) (start : TraceState) (order : List ℕ) (n : TraceState) (index : ℕ)
    (reached : Reaches program waits locks start order n index) where
  pub reaches_next : index < length order → {after : TraceState}
      → after ≡ step_noted program waits locks n (get_or order index 0)
      → Reaches program waits locks start order after (index + 1)
  unfolding order_noted
  reaches_next lt {after} e =
      reached
      ∙ ap (order_noted program waits locks n) (drop-cons order index 0 lt)
      ∙ ap (λ (m : TraceState). order_noted program waits locks m (drop (suc index) order)) (sym e)
      ∙ ap (λ (k : ℕ). order_noted program waits locks after (drop k order)) (sym (add-one index))

  pub reaches_end : length order ≤ index → n ≡ order_noted program waits locks start order
  unfolding order_noted
  reaches_end le = sym (reached ∙ ap (order_noted program waits locks n) (drop_of_length-le order le))
