-- `timing_jobs::job_total` meets its contract: the total so far and the jobs of the tasks still to come make the table's
-- count.
-- Assumes nothing.
use Prim.Native.Nat.{◌+◌, ◌*◌, ◌^◌, ◌≤◌}
use mathlib.Core.Path.{◌≡◌}
use mathlib.Core.List.{map}
use lib.ListN.{drop}
use Rattle.notation.specs.Lists.{sum}
use Rattle.taskfile.specs.Tables.{tasks_of}
use Rattle.timing.specs.Jobs.{jobs_within, job_count}
use Rattle.timing_jobs.proofs.job_total.Given as goal

abbrev pub invariant-loop-e : goal.invariant-loop-e
invariant-loop-e l =
    (l.total ≤ l.e-index * 2 ^ 32)
    × (l.total + sum (map (jobs_within l.t.window) (drop l.e-index (tasks_of l.t))) ≡ job_count l.t)
