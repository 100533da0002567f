-- The measure of `fits_from`, which calls itself: the number of tasks from j on.
use Prim.Native.Nat.{◌-◌}
use Rattle.timing_response.proofs.scheduling_points.+fits_from.Given as goal

abbrev pub decreases-fits_from : goal.decreases-fits_from
decreases-fits_from l = l.tasks - l.j
