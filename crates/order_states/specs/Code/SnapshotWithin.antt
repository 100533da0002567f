-- No job of a snapshot holds more than it can by its position. Every snapshot that an order can reach is so
-- (`SnapshotWithinLaws`).
-- Assumes nothing.
use Rattle.std.specs.Prelude.{ℕ, get_or}
use Rattle.machine.specs.Code.Within.{LocksWithin}
use Rattle.order_states.specs.Code.Snapshots.{Snapshot}
use Rattle.order_states.specs.Code.SnapshotSteps.{beyond}

pub record AllWithin (p : Snapshot) : Type 0 where
  pub each : (k : ℕ) → LocksWithin (get_or p.stack k beyond).local
