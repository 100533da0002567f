-- `timing_iteration::quotients::kept_interference` meets its contract. The loop's invariant: the quotients are kept for r, and as in
-- `interference_of`, the total so far and the interference of the tasks from k on make that of all above task i, for any
-- table of these times, and the total is below k × 2^33. A turn adds at most one period to what is kept of task k, and
-- then what is kept reaches r or is replaced. Assumes nothing.
use mathlib.Core.Path.{◌≡◌}
use Prim.Native.Nat.{◌<◌, ◌+◌, ◌*◌, ◌^◌}
use lib.ListN.{drop}
use Rattle.taskfile.specs.declared.Table.{Table}
use Rattle.taskfile.specs.Tables.{tasks_of}
use Rattle.timing.specs.Response.{interference}
use Rattle.timing.specs.Code.ResponseParts.{TimesOf}
use Rattle.timing_iteration.specs.Code.Kept.{Kept}
use Rattle.timing_iteration.proofs.quotients.kept_interference.Given as goal

abbrev pub invariant-loop-k : goal.invariant-loop-k
invariant-loop-k l =
    (l.total < l.k * 2 ^ 33)
    × ((t : Table) → t.tasks ≡ l.fn.tasks → TimesOf t l.timings
    → l.total + interference (drop l.k (tasks_of t)) l.r ≡ interference (drop (l.fn.i.0 + 1) (tasks_of t)) l.r)
    × Kept l.timings l.fn.tasks l.r l.kept
