-- `timing_response::scheduling_points::fits_alone` meets its contract: for any table of these times the test is that of task i's own times.
-- Assumes nothing.
use native.Mathlib.Numerals.{add-one}
use native.Mathlib.Omega.{arith}
use Rattle.timing.proofs.Laws.LentTimesLaws.{lent_read}
use Rattle.timing.specs.Response.{tasks_above}
use Rattle.timing.specs.Code.ResponseParts.{fits_alone}
use Rattle.timing_response.proofs.scheduling_points.fits_alone.Goals as goal

pub bounds-timings-i : goal.bounds-timings-i
bounds-timings-i c = omega (arith, c.requires.0.few)

pub fits_from-requires : goal.fits_from-requires
fits_from-requires c =
    let bounded = c.requires.0 in
    let narrow = bounded.narrow _ c.requires.1 in
    (bounded, omega arith, omega (arith, bounded.within _ c.requires.1, narrow), narrow)

pub returns-then-above : goal.returns-then-above
unfolding fits_alone tasks_above
returns-then-above c = λ t few times.
    let read = lent_read times c.args.i (omega (arith, few, c.requires.1)) in
    rw (c.if-above.true, ← add-one c.args.i.0, ← read.execution, ← read.period) (c.fits_from.ensures t few times)

pub returns-else-above : goal.returns-else-above
returns-else-above c = λ t few times. rw c.if-above.false
