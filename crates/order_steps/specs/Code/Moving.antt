-- The move of an order byte on a snapshot, where the running job's task is known: whose turn it is, and what the move
-- makes.
-- Assumes nothing.
use Rattle.std.specs.Prelude.{◌≡◌, ℕ, ◌≤◌, ◌<◌, List, eqb}
use Rattle.std.specs.Prelude.{if◌then◌else◌}
use Rattle.machine.specs.Code.Within.{LocksWithin}
use Rattle.order.specs.OrderBytes.{task_of_byte, value_of_byte}
use Rattle.order.specs.declared.Frame.{Frame}
use Rattle.order_states.specs.declared.Due.{Due}
use Rattle.order_states.specs.Code.Snapshots.{Snapshot}
use Rattle.order_states.specs.Code.SnapshotSteps.{Program, start_turn, top_turn, made_in}
use Rattle.order_states.specs.Code.StateBytes.{snapshot_in}

-- a job that can step: its number and its position are in range, and it holds no more than it can by then
abbrev pub Steppable : Frame → Type 0
Steppable f = (f.job.0 < 32) × (f.local.next < 16) × LocksWithin f.local

-- whose turn task i's is: the running job's, if `top` is that task, or else that of a job that starts
unfoldable pub mover_in : Snapshot → ℕ → ℕ → Due
mover_in p top i = if eqb i top then top_turn p else start_turn p i

-- what a move asks of the state that the bytes hold: who has the turn has a place among the active jobs, and can step
abbrev pub Movable : List ℕ → ℕ → ℕ → Type 0
Movable bytes top byte =
    (byte < 128) × (task_of_byte byte ≡ top → 1 ≤ (snapshot_in bytes).depth)
    × ((mover_in (snapshot_in bytes) top (task_of_byte byte)).under < 8)
    × Steppable (mover_in (snapshot_in bytes) top (task_of_byte byte)).frame

-- the snapshot after the move
unfoldable pub moved_in : Program → Snapshot → ℕ → ℕ → Snapshot
moved_in program p top byte =
    let d = mover_in p top (task_of_byte byte) in made_in program p d.frame d.under (task_of_byte byte) (value_of_byte byte)
