-- `timing_jobs::add_jobs` meets its contract: after k turns the list has the task's first k jobs at its end.
-- Assumes nothing.
use Prim.Native.Nat.{◌+◌}
use mathlib.Core.Path.{◌≡◌}
use mathlib.Core.List.{List, ◌++◌, map}
use Rattle.notation.specs.Lists.{up_to}
use Rattle.timing.specs.declared.JobRecord.{JobRecord}
use Rattle.timing.specs.Code.JobParts.{job_list_of}
use Rattle.timing.proofs.Laws.JobListLaws.{job_as}
use Rattle.timing_jobs.proofs.add_jobs.Given as goal

abbrev pub invariant-loop-k : goal.invariant-loop-k
invariant-loop-k l =
    (l.list.count ≡ l.fn.list.count + l.k)
    × ((before : List JobRecord)
    → l.fn.list ≡ job_list_of before
    → l.list ≡ job_list_of (before ++ map (job_as l.i l.first l.period l.response) (up_to l.k)))
