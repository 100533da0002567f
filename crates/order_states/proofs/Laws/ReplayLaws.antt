-- The replay on snapshots is the replay of `Replay`: the first snapshot shows the state that an order starts from,
-- and each byte keeps the two together.
-- Assumes nothing.
use Rattle.std.proofs.Math.Path.{◌≡◌, refl, sym, ap}
use Rattle.std.proofs.Common.{◌∙◌, lt-ltb, le-ltb}
use Rattle.std.proofs.Math.Logic.{inl, inr}
use Rattle.std.specs.Prelude.{ℕ, zero, suc, ◌+◌, ◌≤◌, ◌<◌, true, false, List, [], ◌∷◌, get_or, None, Some}
use Rattle.std.specs.Prelude.{Option as Perhaps}
use Rattle.std.proofs.Math.Decide.{ℕ_discrete, dec_lt}
use native.Mathlib.Omega.{arith}
use Rattle.std.proofs.Math.Option.{Option, none, some}
use Rattle.taskfile.specs.declared.Ceilings.{Ceilings}
use Rattle.taskfile.proofs.Laws.JudgingLaws.{tasks_length}
use Rattle.notation.specs.Checked.{Checked, refused, passed, mapped, ◌>>=◌}
use Rattle.notation.specs.Laws.CheckedLaws.{require_holds, require_fails}
use Rattle.notation.specs.Laws.ListLaws.{up_to_length, get_or_up_to}
use Rattle.notation.specs.Lists.{from, up_to}
use Rattle.notation.specs.Laws.TestLaws.{test_decided}
use Rattle.timing.specs.declared.Job.{Job}
use Rattle.timing.specs.Accepted.{Accepted}
use Rattle.timing.specs.Relations.{IsJob, base}
use Rattle.machine.specs.Ends.{no_flags}
use Rattle.order_states.specs.declared.Due.{Due}
use Rattle.order_states.specs.Code.Snapshots.{Snapshot}
use Rattle.order.specs.OrderBytes.{task_of_byte}
use Rattle.order.specs.Code.Invariant.{Invariant}
use Rattle.timing.proofs.Laws.JobFacts.{jobs_few}
use Rattle.order.proofs.Laws.LengthLaws.{left, step_left}
use Rattle.order.specs.Orders.{step, order_end}
use Rattle.notation.specs.Laws.QuantifierLaws.{map_length, map_at}
use Rattle.order.specs.Replay.{is_task, replay_from, replay}
use Rattle.order.specs.Slips.{slip_of}
use Rattle.order.proofs.Laws.SlipLaws.{slip_positive, byte_extra, byte_slips, byte_steps}
use Rattle.timing.proofs.Laws.BaseLaws.{base_rises, base_small}
use Rattle.order_states.specs.Code.Shows.{Lends, Shows}
use Rattle.order_states.proofs.Laws.SnapshotLaws.{step_agreed, finished_agreed}
use Rattle.order_states.proofs.Laws.TurnAgreed.{Turned, turn_turned}
use Rattle.order_states.specs.Code.SnapshotSteps.{owner_in, stack_of, turn_in, step_in, finished_in, slip_in, replay_in, first_from, first_snapshot}
use Rattle.timing.specs.Code.IsAccepted.{IsAccepted}
use Rattle.order.specs.States.{State, initial, has_ended, all_ended}
use Rattle.order.proofs.Laws.StepLaws.{step_keeps, no_flag}
use Rattle.order_states.specs.Code.ReplayParts.{ReplayEndsAs, end_in}

-- ---- one byte

module _ (program waits : List ℕ) (locks : Ceilings) (tasks : ℕ) (p : Snapshot) (index byte : ℕ) (bytes : List ℕ) where
  -- a byte after the end
  pub replay_extra : finished_in program p ≡ true
      → replay_in program waits locks tasks p index (byte ∷ bytes) ≡ refused 32 index
  unfolding replay_in
  replay_extra e = rw (e, replay_in) refl

  -- a byte that is no step
  pub replay_illegal : finished_in program p ≡ false → (step_in program waits locks p byte).allowed ≡ false
      → replay_in program waits locks tasks p index (byte ∷ bytes)
      ≡ refused (slip_in program waits locks tasks p byte) index
  unfolding replay_in
  replay_illegal e illegal = rw (e, illegal, replay_in) refl

  -- a byte that is one
  pub replay_on : finished_in program p ≡ false → (step_in program waits locks p byte).allowed ≡ true
      → replay_in program waits locks tasks p index (byte ∷ bytes)
      ≡ replay_in program waits locks tasks (step_in program waits locks p byte).state (suc index) bytes
  unfolding replay_in
  replay_on e allowed = rw (e, allowed, replay_in) refl

-- ---- the first snapshot

-- a job of a lower task is passed over
pub first_on : (program : List ℕ) (k start n : ℕ) → owner_in program start < k
    → first_from program k start (suc n) ≡ first_from program k (suc start) n
unfolding first_from
first_on program k start n h = rw (lt-ltb (owner_in program start) k h, first_from) refl

pub first_stops : (program : List ℕ) (k start n : ℕ) → k ≤ owner_in program start
    → first_from program k start (suc n) ≡ start
unfolding first_from
first_stops program k start n h = rw (le-ltb (owner_in program start) k h, first_from) refl

first_from_lem : (program : List ℕ) (k start n : ℕ) → start ≤ first_from program k start n
unfolding first_from
first_from_lem program k start zero = omega arith
first_from_lem program k start (suc n) =
    elim (dec_lt (owner_in program start) k) [
      | yes lower ↦ omega (arith, first_on program k start n lower, first_from_lem program k (suc start) n)
      | no found ↦ omega (arith, first_stops program k start n (omega arith))
    ]

-- the first job of task k or above is not above any such job
first_within : (program : List ℕ) (k x start n : ℕ) → start ≤ x → x < start + n → k ≤ owner_in program x
    → first_from program k start n ≤ x
unfolding first_from
first_within program k x start zero le lt h = omega arith
first_within program k x start (suc n) le lt h =
    elim (dec_lt (owner_in program start) k) [
      | yes lower ↦
          let apart : start ≡ x → ⊥ = λ same. omega (arith, ap (owner_in program) same) in
          omega (arith, first_on program k start n lower, first_within program k x (suc start) n (omega arith) (omega arith) h)
      | no found ↦ omega (arith, first_stops program k start n (omega arith))
    ]

-- and is above x if all jobs up to x are of lower tasks
first_beyond : (program : List ℕ) (k x start n : ℕ) → start ≤ x → x < start + n
    → ((y : ℕ) → y ≤ x → owner_in program y < k) → x < first_from program k start n
first_beyond program k x start zero le lt h = absurd (omega arith)
first_beyond program k x start (suc n) le lt h =
    elim (ℕ_discrete start x) [
      | yes same ↦ omega (arith, first_on program k start n (h start le), first_from_lem program k (suc start) n)
      | no apart ↦ omega (arith, first_on program k start n (h start le), first_beyond program k x (suc start) n (omega arith) (omega arith) h)
    ]

module _ {a : Accepted} (ok : IsAccepted a) {program waits : List ℕ} {locks : Ceilings} (lends : Lends a program waits locks) where
  -- task k's entry
  first_entry : (store : List ℕ) (k : ℕ) → k < 8
      → get_or (first_snapshot program store).unended k 0 ≡ first_from program k 0 32
  unfolding first_snapshot up_to from
  first_entry store k lt =
      map_at (λ k. first_from program k 0 32) (up_to 8) k 0 0 lt ∙ ap (λ (i : ℕ). first_from program i 0 32) (get_or_up_to 8 k 0 lt)

  none_ended : (x : Job) → has_ended (initial a) x ≡ false
  unfolding initial no_flags has_ended
  none_ended x = no_flag 32 x.0

  -- it shows the state that an order starts from
  pub first_shown : Shows a (first_snapshot program a.table.store) (initial a)
  unfolding first_snapshot initial stack_of
  first_shown = record {
    store = refl;
    failed = refl;
    active = refl;
    depth = omega arith;
    full = refl;
    places = map_length _ (up_to 8) ∙ up_to_length 8;
    ended = λ x is_x.
        (let k = base a x in
        let entry = first_entry a.table.store k (base_small ok x is_x) in
        let within = first_within program k x.0 0 32 (omega arith) (omega (arith, jobs_few ok.is_timed)) (omega (arith, lends.table.owner x is_x)) in
        none_ended x ∙ sym (le-ltb x.0 (get_or (first_snapshot program a.table.store).unended k 0) (omega arith)));
    lowest = λ k x lt is_x low.
        (let entry = first_entry a.table.store k lt in
        let lower : (y : ℕ) → y ≤ x.0 → owner_in program y < k = λ y le.
        (let isY : IsJob a (record { 0 = y }) = omega arith in
        omega (arith, lends.table.owner (record { 0 = y }) isY, base_rises ok (record { 0 = y }) x le is_x)) in
        omega (arith, first_beyond program k x.0 0 32 (omega arith) (omega (arith, jobs_few ok.is_timed)) lower));
  }

  -- ---- the replay

  replay_end : {p : Snapshot} {s : State} → Invariant a s → Shows a p s → (index : ℕ)
      → ReplayEndsAs a (replay_in program waits locks a.table.tasks p index []) (replay_from a s index [])
  unfolding replay_in replay_from
  replay_end {p} {s} inv shows index =
      let same = finished_agreed ok lends inv shows in
      elim (test_decided (all_ended a s)) [
        | inl e ↦ rw (require_holds (all_ended a s) 31 index (passed s) e, same ∙ e) shows
        | inr e ↦ rw (require_fails (all_ended a s) 31 index (passed s) e, same ∙ e) (refl, refl)
      ]

  -- a byte that is no step slips alike
  slip_agreed : {p : Snapshot} {s : State} → Invariant a s → Shows a p s → (byte : ℕ)
      → slip_in program waits locks a.table.tasks p byte ≡ slip_of a s byte
  unfolding slip_in slip_of is_task
  slip_agreed {p} {s} inv shows byte =
      slipped (turn_in program waits locks p (task_of_byte byte)) refl (turn_turned ok lends inv shows (task_of_byte byte))
    where
      slipped : (o : Perhaps Due) → turn_in program waits locks p (task_of_byte byte) ≡ o
          → Turned ok lends inv shows (task_of_byte byte) o
          → slip_in program waits locks a.table.tasks p byte ≡ slip_of a s byte
      slipped None e turned = rw (tasks_length _ ok.is_made.shaped, e, turned) refl
      slipped (Some d) e shown = rw (tasks_length _ ok.is_made.shaped, e, shown.due) refl

  -- one byte keeps the two together
  replay_step : {p : Snapshot} {s : State} → Invariant a s → Shows a p s → (index byte : ℕ) (bytes : List ℕ)
      → ((after : State) → Invariant a after → Shows a (step_in program waits locks p byte).state after → ReplayEndsAs
      a (replay_in program waits locks a.table.tasks (step_in program waits locks p byte).state (suc index) bytes)
      (replay_from a after (suc index) bytes))
      → ReplayEndsAs a (replay_in program waits locks a.table.tasks p index (byte ∷ bytes))
      (replay_from a s index (byte ∷ bytes))
  replay_step {p} {s} inv shows index byte bytes onward =
      let same = finished_agreed ok lends inv shows in
      let agreed = step_agreed ok lends inv shows byte in
      elim (test_decided (all_ended a s)) [
        | inl e ↦
            rw (byte_extra a s index byte bytes e, replay_extra program waits locks _ p index byte bytes (same ∙ e)) (refl, refl)
        | inr e ↦ elim (test_decided (step_in program waits locks p byte).allowed) [
          | inl allowed ↦
              let made = agreed.0 allowed in
              rw (byte_steps ok inv index byte bytes made.1, replay_on program waits locks _ p index byte bytes (same ∙ e) allowed)
              (onward made.0 (step_keeps ok inv byte made.1) made.2)
          | inr refusal ↦
              rw (byte_slips a s index byte bytes e (agreed.1 refusal), replay_illegal program waits locks _ p index byte bytes (same ∙ e) refusal)
              (slip_agreed inv shows byte, refl)
        ]
      ]

  pub replay_agreed : (bytes : List ℕ) {p : Snapshot} {s : State} → Invariant a s → Shows a p s → (index : ℕ)
      → ReplayEndsAs a (replay_in program waits locks a.table.tasks p index bytes) (replay_from a s index bytes)
  replay_agreed [] inv shows index = replay_end inv shows index
  replay_agreed (byte ∷ bytes) inv shows index =
      replay_step inv shows index byte bytes (λ after kept shown. replay_agreed bytes kept shown (suc index))

-- how the order ends is kept of an outcome
end_kept : (a : Accepted) (c : Checked ℕ Snapshot) (d : Checked ℕ State) → ReplayEndsAs a c d
    → mapped end_in c ≡ ◌>>=◌ d (λ s. passed (order_end s))
unfolding mapped ◌>>=◌ order_end
end_kept a (refused n k) (refused number place) ends = λ t. refused (ends.0 t) (ends.1 t)
end_kept a (passed p) (passed s) shows = λ t. passed (record { store = shows.store t; failed = shows.failed t })
end_kept a (refused n k) (passed s) ends = absurd ends
end_kept a (passed p) (refused number place) ends = absurd ends

pub replay_kept : (a : Accepted) (order : List ℕ) (c : Checked ℕ Snapshot)
    → ReplayEndsAs a c (replay_from a (initial a) 0 order) → mapped end_in c ≡ replay a order
unfolding replay
replay_kept a order c ends = end_kept a c (replay_from a (initial a) 0 order) ends

-- ---- what a replay refuses

-- a fault has a number, and stands no further on than there are steps left
pub record Fault (a : Accepted) (s : State) (index number place : ℕ) : Type 0 where
  pub numbered : 1 ≤ number
  pub near : place ≤ index + left a s

fault_here : {a : Accepted} {s : State} {index n number place : ℕ}
    → ◌≡◌ {A = Checked ℕ State} (refused n index) (refused number place) → 1 ≤ n → Fault a s index number place
fault_here {index = index} {n} {number} {place} same positive =
    let first : n ≡ number = cc in
    let second : index ≡ place = cc in
    record { numbered = omega arith; near = omega arith }

module _ {a : Accepted} (ok : IsAccepted a) where
  end_fault : (s : State) (index : ℕ) {number place : ℕ} → replay_from a s index [] ≡ refused number place
      → Fault a s index number place
  unfolding replay_from
  end_fault s index e =
      elim (test_decided (all_ended a s)) [
        | inl ended ↦ absurd (let clash = sym (require_holds (all_ended a s) 31 index (passed s) ended) ∙ e in let z : ◌≡◌ {A = ℕ} 0 1 = cc in omega arith)
        | inr early ↦ fault_here (sym (require_fails (all_ended a s) 31 index (passed s) early) ∙ e) (omega arith)
      ]

  byte_fault : {s : State} → Invariant a s → (index byte : ℕ) (bytes : List ℕ) {number place : ℕ}
      → ((after : State) → Invariant a after → replay_from a after (suc index) bytes ≡ refused number place → Fault a
      after (suc index) number place) → (o : Option State) → step a s byte ≡ o
      → replay_from a s index (byte ∷ bytes) ≡ refused number place → Fault a s index number place
  byte_fault {s} inv index byte bytes later none h e =
      elim (test_decided (all_ended a s)) [
        | inl ended ↦ fault_here (sym (byte_extra a s index byte bytes ended) ∙ e) (omega arith)
        | inr going ↦ fault_here (sym (byte_slips a s index byte bytes going h) ∙ e) (slip_positive a s byte)
      ]
  byte_fault {s} inv index byte bytes later (some after) h e =
      let fault = later after (step_keeps ok inv byte h) (sym (byte_steps ok inv index byte bytes h) ∙ e) in
      record { numbered = fault.numbered; near = omega (arith, fault.near, step_left ok inv byte h) }

  pub replay_fault : (bytes : List ℕ) {s : State} → Invariant a s → (index : ℕ) {number place : ℕ}
      → replay_from a s index bytes ≡ refused number place → Fault a s index number place
  replay_fault [] {s} inv index e = end_fault s index e
  replay_fault (byte ∷ bytes) {s} inv index e =
      byte_fault inv index byte bytes (λ after kept h. replay_fault bytes kept (suc index) h) (step a s byte) refl e
