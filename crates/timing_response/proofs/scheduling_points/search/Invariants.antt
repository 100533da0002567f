-- `timing_response::scheduling_points::search` meets its contract. The loop's invariant: no solution is below lo, and
-- one is not above hi. A look at the middle tells on which side of it the least solution is, since the test by
-- scheduling points is right there. The measure is how far lo is from hi. Assumes nothing.
use Prim.Native.Nat.{◌-◌}
use Rattle.timing.proofs.Laws.HalvingLaws.{Between}
use Rattle.timing_response.proofs.scheduling_points.search.Given as goal

abbrev pub invariant-loop-lo : goal.invariant-loop-lo
invariant-loop-lo l = Between l.times.table.now l.i l.lo l.hi

abbrev pub decreases-loop-lo : goal.decreases-loop-lo
decreases-loop-lo l = l.hi - l.lo
