-- Laws of a move on a state's bytes: the job that has the turn is placed, or stands there already, and then steps.
-- Assumes nothing.
use Rattle.std.specs.Prelude.{◌≡◌, refl, ℕ, ◌+◌, ◌-◌, ◌≤◌, ◌<◌, List, get_or}
use Rattle.std.proofs.Common.{sym, ap, ◌∙◌, eq-eqb, ne_eqb}
use Rattle.std.proofs.Math.Path.{subst}
use Rattle.machine.specs.declared.Local.{Local}
use Rattle.machine.specs.Instructions.{fresh}
use Rattle.order.specs.OrderBytes.{task_of_byte, value_of_byte}
use Rattle.order.specs.declared.Frame.{Frame}
use Rattle.order_states.specs.declared.Due.{Due}
use Rattle.order_states.specs.Code.Snapshots.{Snapshot}
use Rattle.order_states.specs.Code.SnapshotSteps.{start_turn, top_turn, made_in}
use Rattle.order_states.specs.Code.StateBytes.{frame_in, snapshot_in, IsState, FrameReplaced}
use Rattle.order_states.proofs.Laws.StateReads.{depth_is, start_turn_read, top_turn_read}
use Rattle.order_steps.specs.Code.Moving.{Steppable, mover_in, moved_in}

-- a job that can step can step where it was placed
pub placed_steppable : {before placed : List ℕ} {under : ℕ} {f : Frame} → FrameReplaced before placed under f
    → Steppable f → Steppable (frame_in placed under)
placed_steppable put own = subst Steppable (sym put.inside) own

-- a job replaced by itself changes nothing
frame_kept : (bytes : List ℕ) (k : ℕ) → FrameReplaced bytes bytes k (frame_in bytes k)
frame_kept bytes k = record { same = refl; inside = refl; outside = λ j off. refl }

-- ---- whose turn it is

-- the running job's
mover_top : (p : Snapshot) (top i : ℕ) → i ≡ top → mover_in p top i ≡ top_turn p
unfolding mover_in
mover_top p top i same = rw (eq-eqb i top same) refl

-- that of a job that starts
mover_start : (p : Snapshot) (top i : ℕ) → (i ≡ top → ⊥) → mover_in p top i ≡ start_turn p i
unfolding mover_in
mover_start p top i apart = rw (ne_eqb i top apart) refl

module _ (before : List ℕ) (top i : ℕ) where
  -- the job of this turn stands at position k, and nothing else has changed
  abbrev Placed : List ℕ → ℕ → Due → Type 0
  Placed after k d = (k ≡ d.under) × FrameReplaced before after k d.frame

  abbrev mover : Due
  mover = mover_in (snapshot_in before) top i

  -- the running job is active
  pub top_deep : (i ≡ top → 1 ≤ (snapshot_in before).depth) → i ≡ top → 1 ≤ get_or before 48 0
  top_deep deep same = rw (depth_is before) at (deep same)

  -- it stands where it is
  pub top_placed : IsState before → (i ≡ top → 1 ≤ (snapshot_in before).depth) → i ≡ top
      → Placed before (get_or before 48 0 - 1) mover
  top_placed state deep same =
      let e = top_turn_read before state (top_deep deep same) refl ∙ sym (mover_top _ top i same) in (
        ap (λ (d : Due). d.under) e,
        subst (FrameReplaced before before _) (ap (λ (d : Due). d.frame) e) (frame_kept before _),
      )

  -- a job that starts has a place over the active ones
  pub start_room : (i ≡ top → ⊥) → mover.under < 8 → get_or before 48 0 < 8
  unfolding start_turn snapshot_in
  start_room apart few = subst (λ (d : Due). d.under < 8) (mover_start (snapshot_in before) top i apart) few

  -- it is placed there
  pub start_placed : (i ≡ top → ⊥) → i < 8 → {own : Local} → own ≡ fresh → {after : List ℕ}
      → FrameReplaced before after (get_or before 48 0)
      (record { job = record { 0 = get_or before (8 + i) 0 }; local = own })
      → Placed after (get_or before 48 0) mover
  start_placed apart small new {after} put =
      let e = start_turn_read before i small new ∙ sym (mover_start (snapshot_in before) top i apart) in (
        ap (λ (d : Due). d.under) e,
        subst (FrameReplaced before after (get_or before 48 0)) (ap (λ (d : Due). d.frame) e) put,
      )

-- ---- the move

-- the step of the job of this turn is the move
pub move_made : (program : List ℕ) (p : Snapshot) (top byte : ℕ) {k : ℕ} → k ≡ (mover_in p top (task_of_byte byte)).under
    → {q : Snapshot} → q ≡ made_in program p (mover_in p top (task_of_byte byte)).frame k (task_of_byte byte) (value_of_byte byte)
    → q ≡ moved_in program p top byte
unfolding moved_in
move_made program p top byte position made =
    made ∙ ap (λ (n : ℕ). made_in program p (mover_in p top (task_of_byte byte)).frame n (task_of_byte byte) (value_of_byte byte)) position
