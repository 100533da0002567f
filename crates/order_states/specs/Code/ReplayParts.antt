-- The replay of a table's parts, as its functions yield it.
-- Assumes nothing.
use Rattle.std.specs.Prelude.{◌≡◌, ℕ, List, Result}
use Rattle.notation.specs.Checked.{Checked, refused, passed}
use Rattle.taskfile.specs.declared.refusals.Refused.{Refused}
use Rattle.taskfile.specs.declared.Table.{Table}
use Rattle.taskfile.specs.Code.Refusals.{outcome}
use Rattle.timing.specs.declared.JobList.{JobList}
use Rattle.timing.specs.Accepted.{Accepted}
use Rattle.timing.specs.Code.IsAccepted.{IsAccepted}
use Rattle.timing.specs.Code.JobParts.{job_list_of}
use Rattle.machine.specs.declared.End.{End}
use Rattle.order.specs.Replay.{replay}
use Rattle.order.specs.States.{State}
use Rattle.order_states.specs.Code.Shows.{Shows}
use Rattle.order_states.specs.Code.Snapshots.{Snapshot}

-- a replay's outcome on snapshots is the outcome on states
abbrev pub ReplayEndsAs : Accepted → Checked ℕ Snapshot → Checked ℕ State → Type 0
ReplayEndsAs a (refused n k) (refused number place) = (n ≡ number) × (k ≡ place)
ReplayEndsAs a (passed p) (passed s) = Shows a p s
ReplayEndsAs a (refused n k) (passed s) = ⊥
ReplayEndsAs a (passed p) (refused number place) = ⊥

-- how an order ends at a snapshot
abbrev pub end_in : Snapshot → End
end_in p = record { store = p.store; failed = p.failed }

-- a replay of a table's parts: it comes to what the order comes to, if they are an accepted table's
abbrev pub ReplayOf : Table → JobList → List ℕ → Result End (Refused ℕ) → Type 0
ReplayOf t list order r =
    (a : Accepted) → IsAccepted a → t ≡ a.table → list ≡ job_list_of a.jobs → outcome r ≡ replay a order
