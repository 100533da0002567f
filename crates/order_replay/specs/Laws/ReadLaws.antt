-- What is read of a state's bytes for the end of an order is what is kept of it.
-- Assumes nothing.
use Rattle.std.specs.Prelude.{◌≡◌, refl, ℕ, ◌+◌, Bool, List, get_or}
use Rattle.std.specs.List.{list_any, range_with_len}
use Rattle.machine.specs.declared.End.{End}
use Rattle.order_states.specs.Code.StateBytes.{snapshot_in}
use Rattle.notation.specs.Lists.{any, from, up_to, bytes_at}
use Rattle.order_states.specs.Code.ReplayParts.{end_in}
use Rattle.order_states.specs.Code.SnapshotSteps.{owned_by, has_unended}

pub outcome_made : (bytes : List ℕ) {store : List ℕ} {failed : List Bool}
    → store ≡ bytes_at bytes 0 8 → failed ≡ (snapshot_in bytes).failed
    → ◌≡◌ {A = End} (record { store = store; failed = failed }) (end_in (snapshot_in bytes))
unfolding snapshot_in
outcome_made bytes stored flags = rw (stored, flags) refl

-- whether some task has a job not yet ended, asked of the eight one by one
pub unended_read : (program bytes : List ℕ)
    → list_any (λ k. owned_by program k (get_or bytes (8 + k) 0)) (range_with_len 0 8)
    ≡ any (has_unended program (snapshot_in bytes).unended) (up_to 8)
unfolding any from up_to bytes_at snapshot_in has_unended
unended_read program bytes = refl
