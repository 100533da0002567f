-- Laws of the writes that a step makes in a state's bytes: its job is placed and performs its instruction there, and what
-- came of it is noted. The bytes then hold the snapshot after the step.
-- Assumes nothing.
use Rattle.std.specs.Prelude.{◌≡◌, ◌⊎◌, ℕ, ◌+◌, ◌≤◌, ◌<◌, Bool, length, get_or, eqb}
use Rattle.std.proofs.Math.Path.{refl, sym, ap, subst}
use Rattle.std.proofs.Common.{◌∙◌}
use Rattle.std.proofs.Math.Logic.{inl, inr}
use Rattle.std.proofs.Math.Decide.{dec_lt}
use native.Mathlib.Omega.{arith}
use Rattle.std.proofs.Math.Bool.{true, false, not}
use mathlib.Core.List.{List, map}
use Rattle.std.proofs.Math.ListN.{set, length-set}
use Rattle.std.proofs.Math.Seq.{get_or-set_same, get_or-set_other}
use Rattle.std.specs.Prelude.{if◌then◌else◌}
use Rattle.notation.specs.Lists.{up_to, bytes_at}
use Rattle.taskfile.specs.declared.Instruction.{Instruction}
use Rattle.machine.specs.declared.Effect.{Effect}
use Rattle.machine.specs.declared.Local.{Local}
use Rattle.machine.specs.Instructions.{perform}
use Rattle.machine.proofs.Laws.WithinLaws.{perform_within}
use Rattle.machine.specs.Ends.{flagged}
use Rattle.machine.specs.Code.Within.{LocksWithin}
use Rattle.order.specs.declared.Frame.{Frame}
use Rattle.machine_performing.specs.Code.Performed.{Performed}
use Rattle.order_states.specs.Code.SnapshotSteps.{instruction_in, after_in, made_in}
use Rattle.order_states.specs.Code.SnapshotWithin.{AllWithin}
use Rattle.order_states.proofs.Laws.SnapshotWithinLaws.{after_within}
use Rattle.order_states.specs.Code.StateBytes.{frame_at, frame_in, flag_in, snapshot_in, IsState, FrameReplaced}
use Rattle.order_states.proofs.Laws.StateWrites.{bytes_same, bytes_set}
use Rattle.notation.specs.Laws.TabulateLaws.{same_values, set_values}
use Rattle.order_states.proofs.Laws.FrameWrites.{frame_same, replaced_store}
use Rattle.order_steps.specs.Code.Noted.{Noted}

-- ---- what is noted

-- the job's flag, if it has failed
abbrev pub flagged_bytes : List ℕ → ℕ → Bool → List ℕ
flagged_bytes before x b = if b then set before (16 + x) 1 else before

module _ (before : List ℕ) (x : ℕ) (whole : length before ≡ 192) (job : x < 32) where
  flag_written : (b : Bool) → map (flag_in (flagged_bytes before x b)) (up_to 32) ≡ flagged b x (map (flag_in before) (up_to 32))
  unfolding flagged flag_in
  flag_written false = refl
  flag_written true =
      set_values (flag_in (set before (16 + x) 1)) (flag_in before) 32 x true
      (ap (λ (b : ℕ). not (eqb b 0)) (get_or-set_same before (16 + x) 1 0 (omega arith)))
      (λ k lt apart. ap (λ (b : ℕ). not (eqb b 0)) (get_or-set_other before (16 + x) (16 + k) 1 0 (λ e. apart (omega arith))))

  flag_length : (b : Bool) → length (flagged_bytes before x b) ≡ length before
  flag_length false = refl
  flag_length true = length-set before (16 + x) 1

  flag_kept : (b : Bool) (k : ℕ) → (k < 16) ⊎ (48 ≤ k) → get_or (flagged_bytes before x b) k 0 ≡ get_or before k 0
  flag_kept false k off = refl
  flag_kept true k off =
      get_or-set_other before (16 + x) k 1 0 (λ e. elim off [ inl low ↦ omega arith | inr high ↦ omega arith ])

  module _ (b : Bool) (flags : List ℕ) (is : flags ≡ flagged_bytes before x b) (under i : ℕ) (task : i < 8) where
    long : length flags ≡ 192
    long = ap length is ∙ flag_length b ∙ whole

    kept : (k : ℕ) → (k < 16) ⊎ (48 ≤ k) → get_or flags k 0 ≡ get_or before k 0
    kept k off = ap (λ (l : List ℕ). get_or l k 0) is ∙ flag_kept b k off

    marked : map (flag_in flags) (up_to 32) ≡ flagged b x (map (flag_in before) (up_to 32))
    marked = ap (λ (l : List ℕ). map (flag_in l) (up_to 32)) is ∙ flag_written b

    -- the job goes on
    noted_false : Noted before (set flags 48 (under + 1)) x under i b false
    unfolding flag_in
    noted_false = record {
      same = length-set flags 48 (under + 1) ∙ long ∙ sym whole;
      unended = bytes_same before (set flags 48 (under + 1)) 8 8
          (λ k low high. get_or-set_other flags 48 k (under + 1) 0 (λ e. omega arith) ∙ kept k (inl (omega arith)));
      flags =
          same_values (flag_in (set flags 48 (under + 1))) (flag_in flags) 32
          (λ k lt. ap (λ (n : ℕ). not (eqb n 0)) (get_or-set_other flags 48 (16 + k) (under + 1) 0 (λ e. omega arith))) ∙ marked;
      depth = get_or-set_same flags 48 (under + 1) 0 (omega (arith, long));
      rest = λ k off.
          get_or-set_other flags 48 k (under + 1) 0 (λ e. elim off [ inl low ↦ omega arith | inr high ↦ omega arith ])
          ∙ kept k (elim off [ inl low ↦ inl (omega arith) | inr high ↦ inr (omega arith) ]);
    }

    pub noted_on : {e : Bool} → e ≡ false → Noted before (set flags 48 (under + 1)) x under i b e
    noted_on h = subst (Noted before (set flags 48 (under + 1)) x under i b) (sym h) noted_false

    -- it has ended
    abbrev ended : List ℕ
    ended = set (set flags (8 + i) (x + 1)) 48 under

    ended_kept : (k : ℕ) → (k ≡ 8 + i → ⊥) → (k ≡ 48 → ⊥) → get_or ended k 0 ≡ get_or flags k 0
    ended_kept k other off =
        get_or-set_other (set flags (8 + i) (x + 1)) 48 k under 0 off ∙ get_or-set_other flags (8 + i) k (x + 1) 0 other

    noted_true : Noted before ended x under i b true
    unfolding flag_in
    noted_true = record {
      same = length-set (set flags (8 + i) (x + 1)) 48 under ∙ length-set flags (8 + i) (x + 1) ∙ long ∙ sym whole;
      unended =
          bytes_set before ended 8 8 i (x + 1)
          (get_or-set_other (set flags (8 + i) (x + 1)) 48 (8 + i) under 0 (λ e. omega arith) ∙ get_or-set_same flags (8 + i) (x + 1) 0 (omega (arith, long)))
          (λ k low high apart. ended_kept k apart (λ e. omega arith) ∙ kept k (inl (omega arith)));
      flags =
          same_values (flag_in ended) (flag_in flags) 32
          (λ k lt. ap (λ (n : ℕ). not (eqb n 0)) (ended_kept (16 + k) (λ e. omega arith) (λ e. omega arith))) ∙ marked;
      depth = get_or-set_same (set flags (8 + i) (x + 1)) 48 under 0 (omega (arith, long, length-set flags (8 + i) (x + 1)));
      rest = λ k off.
          ended_kept k (λ e. elim off [ inl low ↦ omega arith | inr high ↦ omega arith ]) (λ e. elim off [ inl low ↦ omega arith | inr high ↦ omega arith ])
          ∙ kept k (elim off [ inl low ↦ inl (omega arith) | inr high ↦ inr (omega arith) ]);
    }

    pub noted_ended : {e : Bool} → e ≡ true → Noted before ended x under i b e
    noted_ended h = subst (Noted before ended x under i b) (sym h) noted_true

-- the flag as it was written
pub flag_raised : (before : List ℕ) (x : ℕ) {b : Bool} → b ≡ true → set before (16 + x) 1 ≡ flagged_bytes before x b
flag_raised before x h = rw h refl

pub flag_left : (before : List ℕ) (x : ℕ) {b : Bool} → b ≡ false → before ≡ flagged_bytes before x b
flag_left before x h = rw h refl

-- ---- the whole step

module _ {before placed done after : List ℕ} {f : Frame} {under i : ℕ} {effect : Effect} (state : IsState before) (few : under < 8)
    (own : LocksWithin effect.local) (put : FrameReplaced before placed under f) (made : Performed placed done under effect)
    (n : Noted done after f.job.0 under i effect.failed effect.ended) where
  -- what lies outside the store and the job's bytes is as it was before the note
  outside : (k : ℕ) → 8 ≤ k → (k < frame_at under) ⊎ (frame_at under + 16 ≤ k) → get_or done k 0 ≡ get_or before k 0
  outside k high off = made.outside k high off ∙ put.outside k off

  away : (k j : ℕ) → (k ≡ under → ⊥) → frame_at k ≤ j → j < frame_at k + 16 → (j < frame_at under) ⊎ (frame_at under + 16 ≤ j)
  unfolding frame_at
  away k j apart low high = elim (dec_lt k under) [ yes lower ↦ inl (omega arith) | no other ↦ inr (omega arith) ]

  below : (k : ℕ) → k < 64 → (k < frame_at under) ⊎ (frame_at under + 16 ≤ k)
  unfolding frame_at
  below k low = inl (omega arith)

  -- the job's bytes
  frame_here : frame_in after under ≡ record { job = f.job; local = effect.local }
  unfolding frame_at
  frame_here =
      frame_same done after under (λ j low high. n.rest j (inr (omega arith))) ∙ made.frame
      ∙ ap (λ (g : Frame). record { job = g.job; local = effect.local }) put.inside

  frame_other : (k : ℕ) → k < 8 → (k ≡ under → ⊥) → frame_in after k ≡ frame_in before k
  unfolding frame_at
  frame_other k lt apart =
      frame_same before after k
      (λ j low high. n.rest j (inr (omega arith)) ∙ outside j (omega arith) (away k j apart low high))

  -- the bytes hold the snapshot after the step
  step_written : snapshot_in after ≡ after_in (snapshot_in before) f.job under i effect
  unfolding snapshot_in after_in flag_in
  step_written =
      λ t.
      record {
        store = (bytes_same done after 0 8 (λ k low high. n.rest k (inl (omega arith))) ∙ made.store) t;
        unended =
            (n.unended ∙ ap (λ (l : List ℕ). if effect.ended then set l i (f.job.0 + 1) else l)
            (bytes_same before done 8 8 (λ k low high. outside k low (below k (omega arith))))) t;
        failed =
            (n.flags ∙ ap (flagged effect.failed f.job.0)
            (same_values (flag_in done) (flag_in before) 32
            (λ k lt. ap (λ (m : ℕ). not (eqb m 0)) (outside (16 + k) (omega arith) (below (16 + k) (omega arith)))))) t;
        depth = n.depth t;
        stack = (set_values (frame_in after) (frame_in before) 8 under (record { job = f.job; local = effect.local }) frame_here frame_other) t;
      }

  depth_few : (b : Bool) → (if b then under else under + 1) ≤ 8
  depth_few true = omega arith
  depth_few false = omega arith

  -- and are a state
  step_whole : IsState after
  step_whole = record {
    whole = n.same ∙ made.same ∙ put.same ∙ state.whole;
    few = omega (arith, n.depth, depth_few effect.ended);
    within = subst AllWithin (sym step_written) (after_within state.within f.job under i effect own);
  }

-- ---- the step of the definition

module _ {before placed : List ℕ} {f : Frame} {under : ℕ} (few : under < 8) (put : FrameReplaced before placed under f) where
  -- the job placed is the frame's
  placed_local : (frame_in placed under).local ≡ f.local
  placed_local = ap (λ (g : Frame). g.local) put.inside

  -- its number and its position are read where it was placed
  module _ (program : List ℕ) (i v : ℕ) {x at : ℕ} {o : Instruction} (job : x ≡ (frame_in placed under).job.0)
      (position : at ≡ (frame_in placed under).local.next) (read : o ≡ instruction_in program i at) where
    abbrev effect : Effect
    effect = perform o v (frame_in placed under).local (bytes_at placed 0 8)

    -- what it performs there is what the definition has it perform
    same_effect : effect ≡ perform (instruction_in program i f.local.next) v f.local (bytes_at before 0 8)
    same_effect =
        ap (λ (n : Instruction). perform n v (frame_in placed under).local (bytes_at placed 0 8))
        (read ∙ ap (instruction_in program i) position)
        ∙ ap (λ (l : Local). perform (instruction_in program i l.next) v l (bytes_at placed 0 8)) placed_local
        ∙ ap (perform (instruction_in program i f.local.next) v f.local) (replaced_store put)

    same_job : x ≡ f.job.0
    same_job = job ∙ ap (λ (g : Frame). g.job.0) put.inside

    pub step_made_lem : IsState before → LocksWithin (frame_in placed under).local
        → {failed : Bool} → failed ≡ effect.failed → {done : List ℕ} → Performed placed done under effect
        → {ended : Bool} → effect.ended ≡ ended → {after : List ℕ} → Noted done after x under i failed ended
        → (snapshot_in after ≡ made_in program (snapshot_in before) f under i v) × IsState after
    unfolding made_in snapshot_in
    step_made_lem state own {failed} fails {done} made {ended} ends {after} n =
        let within = perform_within o v (frame_in placed under).local (bytes_at placed 0 8) own in
        let failing : Noted done after x under i effect.failed effect.ended =
        subst (λ (b : Bool). Noted done after x under i b effect.ended) fails
        (subst (Noted done after x under i failed) (sym ends) n) in
        let noted =
        subst (λ (y : ℕ). Noted done after y under i effect.failed effect.ended) same_job failing in (
          step_written state few within put made noted ∙ ap (after_in (snapshot_in before) f.job under i) same_effect,
          step_whole state few within put made noted,
        )
