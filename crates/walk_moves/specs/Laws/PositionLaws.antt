-- Laws of where the job stands whose turn a task's is, and of how that is read from a state's bytes.
-- Assumes nothing.
use Rattle.std.specs.Prelude.{◌≡◌, ℕ, ◌-◌, ◌≤◌, List, get_or}
use Rattle.std.proofs.Math.Path.{refl, sym}
use Rattle.std.proofs.Common.{ap, ◌∙◌, arith, eq-eqb, ne_eqb}
use Rattle.machine.specs.Instructions.{fresh}
use Rattle.order.specs.declared.Frame.{Frame}
use Rattle.order_states.specs.Code.Snapshots.{Snapshot}
use Rattle.order_states.specs.Code.SnapshotSteps.{start_turn, top_of, top_turn}
use Rattle.order_states.specs.Code.StateBytes.{frame_in, snapshot_in, IsState}
use Rattle.order_states.proofs.Laws.StateReads.{depth_is, top_is}
use Rattle.walk_moves.specs.Code.MoveParts.{position_in}

-- a job that starts stands at its first instruction
pub start_first : (p : Snapshot) (i : ℕ) → 0 ≡ (start_turn p i).frame.local.next
unfolding start_turn fresh
start_first p i = refl

module _ (p : Snapshot) (top i : ℕ) where
  -- case by case
  position_top : i ≡ top → (top_of p).local.next ≡ position_in p top i
  unfolding position_in
  position_top here = rw (eq-eqb i top here) refl

  pub position_start : (i ≡ top → ⊥) → 0 ≡ position_in p top i
  unfolding position_in
  position_start other = rw (ne_eqb i top other) refl

  -- so it stands in the turn of the running job, and in that of one that starts
  pub at_top : i ≡ top → {n : ℕ} → n ≡ position_in p top i → n ≡ (top_turn p).frame.local.next
  unfolding top_turn
  at_top here at = at ∙ sym (position_top here)

  pub at_start_lem : (i ≡ top → ⊥) → {n : ℕ} → n ≡ position_in p top i → n ≡ (start_turn p i).frame.local.next
  at_start_lem other at = at ∙ sym (position_start other) ∙ start_first p i

module _ (bytes : List ℕ) (deep : 1 ≤ (snapshot_in bytes).depth) where
  -- the bytes count the active jobs
  pub depth_read : 1 ≤ get_or bytes 48 0
  depth_read = omega (arith, depth_is bytes)

  -- the running job's position is read from the frame of the one started last
  pub position_read : IsState bytes → (top i : ℕ) → i ≡ top → {n : ℕ}
      → n ≡ (frame_in bytes (get_or bytes 48 0 - 1)).local.next → n ≡ position_in (snapshot_in bytes) top i
  position_read state top i here read =
      read ∙ ap (λ (f : Frame). f.local.next) (sym (top_is bytes state.few depth_read))
      ∙ position_top (snapshot_in bytes) top i here
