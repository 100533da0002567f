-- `timing_jobs::jobs_of` meets its contract: the list holds the jobs of the tasks passed, and has room for those to come,
-- since all are at most 32.
-- Assumes nothing.
use Prim.Native.Nat.{◌+◌}
use mathlib.Core.Path.{◌≡◌}
use mathlib.Core.List.{map}
use lib.ListN.{drop}
use Rattle.notation.specs.Lists.{sum}
use Rattle.taskfile.specs.Tables.{tasks_of}
use Rattle.timing.specs.Jobs.{jobs_within, job_count}
use Rattle.timing.specs.Code.JobParts.{job_list_of}
use Rattle.timing.proofs.Laws.JobListLaws.{jobs_below}
use Rattle.timing_jobs.proofs.jobs_of.Given as goal

abbrev pub invariant-loop-i : goal.invariant-loop-i
invariant-loop-i l =
    (l.list.count + sum (map (jobs_within l.t.window) (drop l.i (tasks_of l.t))) ≡ job_count l.t)
    × (l.list ≡ job_list_of (jobs_below l.t l.times l.i))
