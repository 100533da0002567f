-- `timing_iteration::utilisation::utilisation_above` meets its contract. The loop's invariant: the utilisation has at most cap parts, and is one that
-- the tasks above need at least without those from k on.
-- Assumes nothing.
use Prim.Native.Nat.{◌+◌, ◌≤◌}
use Rattle.timing.proofs.Laws.UtilisationLaws.{UtilisationBefore}
use Rattle.timing_iteration.proofs.utilisation.utilisation_above.Given as goal

abbrev pub invariant-loop-k : goal.invariant-loop-k
invariant-loop-k l = (l.s.whole ≤ l.cap) × UtilisationBefore l.times.table.now (l.fn.equation.task.0 + 1) l.k l.cap l.s
