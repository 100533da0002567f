-- Laws of reading a state's bytes: what each part of the snapshot that they hold is, and what the tests that decide a
-- turn come to when they are made on the bytes.
-- Assumes nothing.
use Rattle.std.specs.Prelude.{◌≡◌, ℕ, ◌+◌, ◌-◌, ◌*◌, ◌≤◌, ◌<◌, Bool, true, false, not, List, length, take, Option, Some, None, IfSome}
use Rattle.std.proofs.Math.Path.{refl, sym, ap}
use Rattle.std.proofs.Common.{◌∙◌, arith, lt-ltb, le-ltb}
use Rattle.std.proofs.Math.ListN.{get_or}
use Rattle.std.proofs.Math.Dec.{ltb}
use Rattle.std.proofs.lemmas.Bool.{not-true, not-false}
use Rattle.taskfile.specs.declared.Ceilings.{Ceilings}
use Rattle.taskfile.specs.declared.Instruction.{Instruction}
use Rattle.notation.specs.Lists.{member, bytes_at}
use Rattle.notation.specs.Laws.TestLaws.{and_holds, and_first, and_second, and_last}
use Rattle.machine.specs.declared.Local.{Local}
use Rattle.machine.specs.Held.{priority}
use Rattle.machine.specs.Instructions.{fresh, values}
use Rattle.order_states.specs.declared.Due.{Due}
use Rattle.order.specs.declared.Frame.{Frame}
use Rattle.order_states.specs.Code.SnapshotSteps.{owner_in, instruction_in, owned_by, wait_in, waits_for, must_wait}
use Rattle.order_states.specs.Code.SnapshotSteps.{bar_in, level_in, beyond, starts_above, starts_in}
use Rattle.order_states.specs.Code.SnapshotSteps.{start_turn, start_in, top_of, runs_in, top_turn, turn_in, offered_in}
use Rattle.order_states.proofs.Laws.StartLaws as start
use Rattle.order_states.proofs.Laws.TurnLaws as turn
use Rattle.order_states.specs.Code.StateBytes.{frame_at, frame_in, snapshot_in, IsState}
use Rattle.notation.specs.Laws.TabulateLaws.{values_length, values_at, bytes_at_at}

-- ---- the parts of a snapshot

module _ (bytes : List ℕ) where
  pub stack_length : length (snapshot_in bytes).stack ≡ 8
  unfolding snapshot_in
  stack_length = values_length (frame_in bytes) 8

  pub unended_at : (k d : ℕ) → k < 8 → get_or (snapshot_in bytes).unended k d ≡ get_or bytes (8 + k) 0
  unfolding snapshot_in
  unended_at k d lt = bytes_at_at bytes 8 8 k d lt

  pub stack_at : (k : ℕ) (d : Frame) → k < 8 → get_or (snapshot_in bytes).stack k d ≡ frame_in bytes k
  unfolding snapshot_in
  stack_at k d lt = values_at (frame_in bytes) 8 k d lt

  pub depth_is : (snapshot_in bytes).depth ≡ get_or bytes 48 0
  unfolding snapshot_in
  depth_is = refl

  -- the number of the active job at position k
  pub frame_job : (k : ℕ) → (frame_in bytes k).job.0 ≡ get_or bytes (64 + 16 * k) 0
  unfolding frame_in frame_at
  frame_job k = refl

  module _ (few : get_or bytes 48 0 ≤ 8) where
    -- the active job started last
    pub top_is : 0 < get_or bytes 48 0 → top_of (snapshot_in bytes) ≡ frame_in bytes (get_or bytes 48 0 - 1)
    unfolding top_of
    top_is deep = rw depth_is (stack_at (get_or bytes 48 0 - 1) beyond (omega arith))

    pub top_job_is : 0 < get_or bytes 48 0
        → (top_of (snapshot_in bytes)).job.0 ≡ get_or bytes (64 + 16 * (get_or bytes 48 0 - 1)) 0
    top_job_is deep = ap (λ (f : Frame). f.job.0) (top_is deep) ∙ frame_job (get_or bytes 48 0 - 1)

-- whether a task's first job not yet ended is one of the task
pub unended_owned : (program bytes : List ℕ) (i : ℕ) → i < 8 → {b : Bool}
    → b ≡ owned_by program i (get_or bytes (8 + i) 0) → b ≡ owned_by program i (get_or (snapshot_in bytes).unended i 0)
unended_owned program bytes i lt e = e ∙ ap (owned_by program i) (sym (unended_at bytes i 0 lt))

-- ---- what a job waits for

-- the byte of a task, held to that of job y's row in the wait table
module _ (waits bytes : List ℕ) (row y k : ℕ) (same : row ≡ 8 * y) (small : k < 8) where
  waits_read : ltb (get_or bytes (8 + k) 0) (get_or waits (row + k) 0) ≡ waits_for waits (snapshot_in bytes).unended y k
  unfolding waits_for wait_in
  waits_read =
      ap (λ (n : ℕ). ltb (get_or bytes (8 + k) 0) (get_or waits (n + k) 0)) same
      ∙ ap (λ (n : ℕ). ltb n (get_or waits (8 * y + k) 0)) (sym (unended_at bytes k 0 small))

  pub waits_below : get_or bytes (8 + k) 0 < get_or waits (row + k) 0 → waits_for waits (snapshot_in bytes).unended y k ≡ true
  waits_below lt = sym waits_read ∙ lt-ltb _ _ lt

  pub waits_past : get_or waits (row + k) 0 ≤ get_or bytes (8 + k) 0 → waits_for waits (snapshot_in bytes).unended y k ≡ false
  waits_past le = sym waits_read ∙ le-ltb (get_or bytes (8 + k) 0) (get_or waits (row + k) 0) le

-- what a task was found to own is a job
pub owned_read : (program : List ℕ) (k x : ℕ) {b : Bool} → b ≡ owned_by program k x → not b ≡ false → x < 32
owned_read program k x {b} owned h = start.owned_job program k x (sym owned ∙ not-false b h)

-- ---- what it may start over

module _ (program : List ℕ) (locks : Ceilings) (bytes : List ℕ) where
  pub level_flat_read : get_or bytes 48 0 ≡ 0 → 0 ≡ level_in program locks (snapshot_in bytes)
  level_flat_read h = sym (start.level_flat program locks (snapshot_in bytes) (depth_is bytes ∙ h))

  module _ (state : IsState bytes) (deep : get_or bytes 48 0 ≡ 0 → ⊥) where
    abbrev at : ℕ
    at = 64 + 16 * (get_or bytes 48 0 - 1)

    top : top_of (snapshot_in bytes) ≡ frame_in bytes (get_or bytes 48 0 - 1)
    top = top_is bytes state.few (omega arith)

    top_job : (top_of (snapshot_in bytes)).job.0 ≡ get_or bytes at 0
    top_job = top_job_is bytes state.few (omega arith)

    active : (snapshot_in bytes).depth ≡ 0 → ⊥
    active flat = deep (sym (depth_is bytes) ∙ flat)

    -- no job stands there
    pub level_no_job : 32 ≤ get_or bytes at 0 → 8 ≡ level_in program locks (snapshot_in bytes)
    level_no_job h =
        sym (start.level_none program locks (snapshot_in bytes) active
        (and_first (ltb (top_of (snapshot_in bytes)).job.0 32) _ (ap (λ (n : ℕ). ltb n 32) top_job ∙ le-ltb (get_or bytes at 0) 32 h)))

    module _ (job : get_or bytes at 0 < 32) {held : List ℕ} (locked : held ≡ bytes_at bytes (at + 8) 8) {r : ℕ}
        (made : r ≡ priority (take locks.count locks.ceilings) (get_or program (512 + get_or bytes at 0) 0) held) where
      -- the present priority of the job that does
      bar_read : bar_in program locks (snapshot_in bytes) ≡ r
      unfolding bar_in frame_in frame_at owner_in
      bar_read = rw top (sym (made ∙ ap (priority (take locks.count locks.ceilings) (get_or program (512 + get_or bytes at 0) 0)) locked))

      is_job : ltb (top_of (snapshot_in bytes)).job.0 32 ≡ true
      is_job = ap (λ (n : ℕ). ltb n 32) top_job ∙ lt-ltb (get_or bytes at 0) 32 job

      pub level_high : 8 ≤ r → 8 ≡ level_in program locks (snapshot_in bytes)
      level_high h =
          sym (start.level_none program locks (snapshot_in bytes) active
          (and_last (ltb (top_of (snapshot_in bytes)).job.0 32) _ (ap (λ (n : ℕ). ltb n 8) bar_read ∙ le-ltb r 8 h)))

      pub level_bar : r < 8 → r + 1 ≡ level_in program locks (snapshot_in bytes)
      level_bar h =
          ap (λ (n : ℕ). n + 1) (sym bar_read)
          ∙ sym (start.level_some program locks (snapshot_in bytes) active
          (and_holds (ltb (top_of (snapshot_in bytes)).job.0 32) _ is_job (ap (λ (n : ℕ). ltb n 8) bar_read ∙ lt-ltb r 8 h)))

-- ---- whether a task's job starts

module _ (program waits : List ℕ) (low : ℕ) (bytes : List ℕ) (i : ℕ) where
  pub starts_full_read : 8 ≤ get_or bytes 48 0 → false ≡ starts_above program waits low (snapshot_in bytes) i
  starts_full_read h = sym (start.starts_full program waits low (snapshot_in bytes) i (rw (depth_is bytes) h))

  module _ (small : i < 8) where
    first : get_or (snapshot_in bytes).unended i 0 ≡ get_or bytes (8 + i) 0
    first = unended_at bytes i 0 small

    owns : {b : Bool} → b ≡ owned_by program i (get_or bytes (8 + i) 0)
        → owned_by program i (get_or (snapshot_in bytes).unended i 0) ≡ b
    owns owned = ap (owned_by program i) first ∙ sym owned

    waiting : {b : Bool} → b ≡ must_wait waits (snapshot_in bytes).unended (get_or bytes (8 + i) 0)
        → must_wait waits (snapshot_in bytes).unended (get_or (snapshot_in bytes).unended i 0) ≡ b
    waiting wait = ap (must_wait waits (snapshot_in bytes).unended) first ∙ sym wait

    pub starts_unowned_read : {b : Bool} → b ≡ owned_by program i (get_or bytes (8 + i) 0) → not b ≡ true
        → false ≡ starts_above program waits low (snapshot_in bytes) i
    starts_unowned_read {b} owned h = sym (start.starts_unowned program waits low (snapshot_in bytes) i (owns owned ∙ not-true b h))

    pub starts_free_read : low ≤ i → get_or bytes 48 0 < 8 → {b : Bool} → b ≡ owned_by program i (get_or bytes (8 + i) 0)
        → not b ≡ false → {w : Bool} → w ≡ must_wait waits (snapshot_in bytes).unended (get_or bytes (8 + i) 0)
        → not w ≡ starts_above program waits low (snapshot_in bytes) i
    starts_free_read above room {b} owned h wait =
        ap not (sym (waiting wait))
        ∙ sym (start.starts_free program waits low (snapshot_in bytes) i small above (rw (depth_is bytes) room) (owns owned ∙ not-false b h))

-- the turn of the job that starts
pub start_turn_read : (bytes : List ℕ) (i : ℕ) → i < 8 → {own : Local} → own ≡ fresh
    → record { frame = record { job = record { 0 = get_or bytes (8 + i) 0 }; local = own }; under = get_or bytes 48 0 }
    ≡ start_turn (snapshot_in bytes) i
unfolding start_turn
start_turn_read bytes i small new = rw (new, unended_at bytes i 0 small, depth_is bytes) refl

module _ (program waits : List ℕ) (locks : Ceilings) (bytes : List ℕ) (i : ℕ) {n : ℕ} (low : n ≡ level_in program locks (snapshot_in bytes))
    {b : Bool} (starts : b ≡ starts_above program waits n (snapshot_in bytes) i) where
  starts_at : starts_in program waits locks (snapshot_in bytes) i ≡ b
  starts_at = ap (λ (m : ℕ). starts_above program waits m (snapshot_in bytes) i) (sym low) ∙ sym starts

  -- the start of a job that may start, and of one that may not
  pub start_due_read : not b ≡ false → Some (start_turn (snapshot_in bytes) i) ≡ start_in program waits locks (snapshot_in bytes) i
  start_due_read h = sym (start.start_due program waits locks (snapshot_in bytes) i (starts_at ∙ not-false b h))

  pub start_none_read : not b ≡ true → start_in program waits locks (snapshot_in bytes) i ≡ None
  start_none_read h = start.start_none program waits locks (snapshot_in bytes) i (starts_at ∙ not-true b h)

-- ---- whose turn it is

module _ (program bytes : List ℕ) (i : ℕ) where
  pub runs_flat_read : get_or bytes 48 0 ≡ 0 → false ≡ runs_in program (snapshot_in bytes) i
  runs_flat_read h = turn.runs_flat program (snapshot_in bytes) i (depth_is bytes ∙ h)

  pub runs_top_read : IsState bytes → i < 8 → (get_or bytes 48 0 ≡ 0 → ⊥) → {b : Bool}
      → b ≡ owned_by program i (get_or bytes (64 + 16 * (get_or bytes 48 0 - 1)) 0) → b ≡ runs_in program (snapshot_in bytes) i
  runs_top_read state small deep owned =
      turn.runs_top program (snapshot_in bytes) i small (λ flat. deep (sym (depth_is bytes) ∙ flat))
      (owned ∙ ap (owned_by program i) (sym (top_job_is bytes state.few (omega arith))))

  pub runs_deep_read : {b : Bool} → b ≡ runs_in program (snapshot_in bytes) i → b ≡ true → 1 ≤ get_or bytes 48 0
  runs_deep_read runs h = rw (depth_is bytes) at (turn.runs_deep program (snapshot_in bytes) i runs h)

-- the turn of the active job started last
pub top_turn_read : (bytes : List ℕ) → IsState bytes → 1 ≤ get_or bytes 48 0 → {f : Frame}
    → f ≡ frame_in bytes (get_or bytes 48 0 - 1)
    → record { frame = f; under = get_or bytes 48 0 - 1 } ≡ top_turn (snapshot_in bytes)
unfolding top_turn
top_turn_read bytes state deep frame = rw (frame, top_is bytes state.few (omega arith), depth_is bytes) refl

module _ (program waits : List ℕ) (locks : Ceilings) (bytes : List ℕ) (i : ℕ) (state : IsState bytes) {b : Bool}
    (runs : b ≡ runs_in program (snapshot_in bytes) i) where
  abbrev Made : Option Due → Type 0
  Made o = (o ≡ turn_in program waits locks (snapshot_in bytes) i) × IfSome o (λ d. (d.under < 8) × (d.frame.job.0 < 32))

  few : (snapshot_in bytes).depth ≤ 8
  few = rw (depth_is bytes) state.few

  -- who runs has the turn
  pub turn_runs_read : b ≡ true → {d : Due} → d ≡ top_turn (snapshot_in bytes) → Made (Some d)
  turn_runs_read h is =
      turn.turn_made program waits locks (snapshot_in bytes) i _
      (ap Some is ∙ turn.turn_runs program waits locks (snapshot_in bytes) i runs h) few

  -- else it is for a start
  pub turn_starts_read : b ≡ false → {o : Option Due} → o ≡ start_in program waits locks (snapshot_in bytes) i → Made o
  turn_starts_read h starts =
      turn.turn_made program waits locks (snapshot_in bytes) i _
      (turn.turn_starts program waits locks (snapshot_in bytes) i runs h starts) few

-- ---- what a job is offered

module _ (program : List ℕ) (f : Frame) (i v : ℕ) where
  pub offered_past : 16 ≤ f.local.next → false ≡ offered_in program f i v
  unfolding offered_in
  offered_past h = sym (and_first (ltb f.local.next 16) _ (le-ltb _ 16 h))

  pub offered_read : f.local.next < 16 → {instruction : Instruction}
      → instruction ≡ instruction_in program i f.local.next → {b : Bool} → b ≡ member v (values instruction)
      → b ≡ offered_in program f i v
  unfolding offered_in
  offered_read inside read offer =
      offer ∙ ap (λ (n : Instruction). member v (values n)) read ∙ sym (and_second (ltb f.local.next 16) _ (lt-ltb _ 16 inside))
