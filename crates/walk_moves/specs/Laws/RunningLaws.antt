-- Laws of the running job's task, as it is read from a state's bytes.
-- Assumes nothing.
use Rattle.std.specs.Prelude.{◌≡◌, ℕ, ◌+◌, ◌-◌, ◌*◌, ◌≤◌, ◌<◌, List, ltb}
use Rattle.std.proofs.Common.{sym, ◌∙◌, arith, le-ltb}
use Rattle.std.proofs.Math.Path.{ap}
use Rattle.std.proofs.Math.ListN.{get_or}
use Rattle.notation.specs.Laws.TestLaws.{and_first, and_last}
use Rattle.order_states.specs.Code.SnapshotSteps.{owner_in, top_of}
use Rattle.order_states.specs.Code.StateBytes.{snapshot_in, IsState}
use Rattle.order_states.proofs.Laws.StateReads.{depth_is, top_job_is}
use Rattle.walk_moves.specs.Code.MoveParts.{running_task}
use Rattle.walk_moves.specs.Laws.DueLaws.{running_none, running_some}

module _ (program bytes : List ℕ) where
  pub running_flat : get_or bytes 48 0 ≡ 0 → 8 ≡ running_task program (snapshot_in bytes)
  running_flat h =
      running_none program (snapshot_in bytes)
      (and_first (ltb 0 (snapshot_in bytes).depth) _ (le-ltb 0 (snapshot_in bytes).depth (omega (arith, depth_is bytes))))

  module _ (state : IsState bytes) (deep : get_or bytes 48 0 ≡ 0 → ⊥) where
    job_is : (top_of (snapshot_in bytes)).job.0 ≡ get_or bytes (64 + 16 * (get_or bytes 48 0 - 1)) 0
    job_is = top_job_is bytes state.few (omega arith)

    pub running_no_job : 32 ≤ get_or bytes (64 + 16 * (get_or bytes 48 0 - 1)) 0 → 8 ≡ running_task program (snapshot_in bytes)
    running_no_job h =
        running_none program (snapshot_in bytes)
        (and_last (ltb 0 (snapshot_in bytes).depth) _ (le-ltb (top_of (snapshot_in bytes)).job.0 32 (omega (arith, job_is))))

    pub running_read : get_or bytes (64 + 16 * (get_or bytes 48 0 - 1)) 0 < 32
        → get_or program (512 + get_or bytes (64 + 16 * (get_or bytes 48 0 - 1)) 0) 0 ≡ running_task program (snapshot_in bytes)
    unfolding owner_in
    running_read job =
        ap (λ (x : ℕ). get_or program (512 + x) 0) (sym job_is)
        ∙ running_some program (snapshot_in bytes) (omega (arith, depth_is bytes)) (omega (arith, job_is))
