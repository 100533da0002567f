-- Laws of what an instruction leaves: one change after another, parts that are worked out from what was read of them,
-- and an operation by its number.
-- Assumes nothing.
use Rattle.std.specs.Prelude.{◌≡◌, ℕ, ◌+◌, ◌-◌, ◌<◌, ◌≤◌, Bool, List, slice_set}
use Rattle.std.proofs.Math.Path.{refl}
use Rattle.std.proofs.Common.{sym, ap, subst, ◌∙◌, arith}
use Rattle.notation.specs.Lists.{bytes_at}
use Rattle.taskfile.specs.declared.Instruction.{Instruction}
use Rattle.machine.specs.declared.Local.{Local}
use Rattle.machine.specs.declared.Effect.{Effect}
use Rattle.order.specs.declared.Frame.{Frame}
use Rattle.machine.specs.Held.{Held, count_of, acquire, release}
use Rattle.machine.specs.Instructions.{Operation, goes_on, perform, skipping, with_held}
use Rattle.machine.proofs.Laws.HeldLaws.{some_holds, none_holds, release_some, release_none}
use Rattle.order_states.specs.Code.StateBytes.{frame_at, frame_in}
use Rattle.order_states.proofs.Laws.FrameWrites.{frame_same}
use Rattle.machine_performing.specs.Code.Performed.{Performed, LocalMade, StoreMade, Done, Running, with_next}
use Rattle.machine_performing.specs.Laws.PartWrites.{unchanged}

-- another store leaves the job as it is
pub store_performed : {before after store : List ℕ} (k : ℕ) → StoreMade before after store
    → Performed before after k (goes_on (frame_in before k).local store)
unfolding frame_at
store_performed {before} {after} k made = record {
  same = made.same;
  store = made.inside;
  frame = frame_same before after k (λ j low high. made.outside j (omega arith));
  outside = λ j high away. made.outside j high;
}

module _ {before after : List ℕ} {k : ℕ} {effect : Effect} (first : Performed before after k effect) where
  -- the job's own state is the effect's
  local_is : (frame_in after k).local ≡ effect.local
  local_is = ap (λ (f : Frame). f.local) first.frame

  -- an effect that differs in what the bytes do not hold
  pub performed_as : (other : Effect) → effect.local ≡ other.local → effect.store ≡ other.store
      → Performed before after k other
  performed_as other local store = record {
    same = first.same;
    store = first.store ∙ store;
    frame = first.frame ∙ ap (λ (l : Local). record { job = (frame_in before k).job; local = l }) local;
    outside = first.outside;
  }

  -- and then a change of the job's own state
  pub performed_then : {last : List ℕ} (change : Local → Local) → LocalMade after last k change
      → Performed before last k (goes_on (change effect.local) effect.store)
  performed_then change second = record {
    same = second.same ∙ first.same;
    store = second.store ∙ first.store;
    frame =
        second.frame
        ∙ λ t. record { job = (first.frame t).job; local = change (local_is t) };
    outside = λ j high away. second.outside j high away ∙ first.outside j high away;
  }

  -- the job still has an instruction to perform, if the effect left its next position
  pub running_on : Running before k → effect.local.next ≡ (frame_in before k).local.next → Running after k
  running_on running kept =
      let next = ap (λ (l : Local). l.next) local_is ∙ kept in
      (running.0, omega (arith, next, running.1))

-- ---- parts of the job's own state by what was read of them

module _ {before after : List ℕ} {k : ℕ} where
  -- the next position worked out from the one that was read
  pub skipped_on : (n next : ℕ) → next ≡ (frame_in before k).local.next
      → LocalMade before after k (with_next (next + 1 + n)) → LocalMade before after k (skipping n)
  unfolding skipping with_next
  skipped_on n next is made =
      let l = (frame_in before k).local in
      performed_as made _ (λ t. record { next = is t + 1 + n; registers = l.registers; held = l.held }) refl

  -- a lock once more
  pub acquired : (lock count : ℕ) → count ≡ count_of (frame_in before k).local.held lock
      → LocalMade before after k (λ l. with_held (slice_set l.held lock (count + 1)) l)
      → LocalMade before after k (λ l. with_held (acquire l.held lock) l)
  unfolding acquire
  acquired lock count is made =
      let l = (frame_in before k).local in
      performed_as made _ (ap (λ (c : ℕ). with_held (slice_set l.held lock (c + 1)) l) is) refl

  -- a lock that is held, once less
  pub released_some : (lock count : ℕ) → count ≡ count_of (frame_in before k).local.held lock → 0 < count
      → LocalMade before after k (λ l. with_held (slice_set l.held lock (count - 1)) l)
      → LocalMade before after k (λ l. with_held (release l.held lock) l)
  released_some lock count is more made =
      let l = (frame_in before k).local in
      let less = release_some l.held lock (some_holds l.held lock (omega (arith, is))) in
      let same = ap (λ (c : ℕ). slice_set l.held lock (c - 1)) is ∙ sym less in
      performed_as made _ (ap (λ (h : Held). with_held h l) same) refl

-- and one that is not held
pub released_none : (before : List ℕ) (k lock count : ℕ) → count ≡ count_of (frame_in before k).local.held lock
    → count ≤ 0 → LocalMade before before k (λ l. with_held (release l.held lock) l)
unfolding with_held
released_none before k lock count is none =
    let l = (frame_in before k).local in
    let kept = release_none l.held lock (none_holds l.held lock (omega (arith, is))) in
    unchanged before k _ (λ t. record { next = l.next; registers = l.registers; held = sym kept t })

-- ---- operations by number

-- the operation that was done is the instruction's
pub done_as : {operation : Operation} {before after : List ℕ} {k : ℕ} {o : Instruction} {v : ℕ} {b : Bool}
    → Done operation before after k o v b → ((l : Local) (s : List ℕ) → perform o v l s ≡ operation o v l s)
    → (b ≡ (perform o v (frame_in before k).local (bytes_at before 0 8)).failed)
    × Performed before after k (perform o v (frame_in before k).local (bytes_at before 0 8))
done_as {operation} {before} {after} {k} {o} {v} {b} done is =
    let same = sym (is (frame_in before k).local (bytes_at before 0 8)) in
    (done.failed ∙ ap (λ (e : Effect). e.failed) same, subst (Performed before after k) same done.made)
