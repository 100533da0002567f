-- The number of a byte that is no step, by the tests that the code has made of it.
-- Assumes nothing.
use Rattle.order.specs.OrderBytes.{task_of_byte}
use Rattle.std.specs.Prelude.{◌≡◌, ℕ, ◌≤◌, ◌<◌, List, Some, None}
use Rattle.std.proofs.Common.{refl, sym}
use borrow.Author.Tests.{lt-ltb, le-ltb}
use Rattle.taskfile.specs.declared.Ceilings.{Ceilings}
use Rattle.order_states.specs.declared.Due.{Due}
use Rattle.order_states.specs.Code.Snapshots.{Snapshot}
use Rattle.order_states.specs.Code.SnapshotSteps.{turn_in, slip_in}

module _ (program waits : List ℕ) (locks : Ceilings) (tasks : ℕ) (p : Snapshot) (byte : ℕ) where
  pub slip_outside : tasks ≤ task_of_byte byte → 33 ≡ slip_in program waits locks tasks p byte
  unfolding slip_in
  slip_outside le = rw (le-ltb (task_of_byte byte) tasks le) refl

  module _ (lt : task_of_byte byte < tasks) where
    pub slip_unturned : None ≡ turn_in program waits locks p (task_of_byte byte) → 30 ≡ slip_in program waits locks tasks p byte
    unfolding slip_in
    slip_unturned is = rw (lt-ltb (task_of_byte byte) tasks lt, sym is) refl

    pub slip_unoffered : {d : Due} → Some d ≡ turn_in program waits locks p (task_of_byte byte)
        → 34 ≡ slip_in program waits locks tasks p byte
    unfolding slip_in
    slip_unoffered is = rw (lt-ltb (task_of_byte byte) tasks lt, sym is) refl
