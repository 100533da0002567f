-- The snapshot that a replay of an order reaches, where it is at fault too.
-- Assumes nothing.
use Rattle.std.specs.Prelude.{ℕ, true, false, List, [], ◌∷◌}
use Rattle.taskfile.specs.declared.Ceilings.{Ceilings}
use Rattle.order_states.specs.Code.Snapshots.{Snapshot}
use Rattle.order_states.specs.Code.SnapshotSteps.{Program, WaitTable, step_in, finished_in}

-- the snapshot after the bytes, or at the first that is at fault
unfoldable pub left_in : Program → WaitTable → Ceilings → Snapshot → List ℕ → Snapshot
left_in program waits locks p [] = p
left_in program waits locks p (byte ∷ bytes) =
    let stepped = step_in program waits locks p byte in
    elim (finished_in program p) [
      | true ↦ p
      | false ↦
          elim stepped.allowed [
            | true ↦ left_in program waits locks stepped.state bytes
            | false ↦ p
          ]
    ]
