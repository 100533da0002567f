-- The walk of a table's parts, as its functions yield it.
-- Assumes nothing.
use Rattle.std.specs.Prelude.{◌≡◌, ℕ, List}
use Rattle.timing.specs.Accepted.{Accepted}
use Rattle.timing.specs.Code.IsAccepted.{IsAccepted}
use Rattle.walk.specs.Walks.{walk}
use Rattle.taskfile.specs.declared.Table.{Table}
use Rattle.timing.specs.declared.JobList.{JobList}
use Rattle.timing.specs.Code.JobParts.{job_list_of}
use Rattle.walk_trials.specs.declared.Outcome.{Outcome}
use Rattle.walk_trials.specs.Code.Trials.{Came}

-- the walk of a table's parts: it comes to what the walk comes to, if they are an accepted table's
abbrev pub WalkOf : Table → JobList → ℕ → List ℕ → List ℕ → Outcome → Type 0
WalkOf t list allowance before after r =
    (a : Accepted) → IsAccepted a → t ≡ a.table → list ≡ job_list_of a.jobs
    → Came (walk a) 0 allowance 0 before after r
