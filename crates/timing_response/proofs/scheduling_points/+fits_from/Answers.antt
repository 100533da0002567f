-- What `timing_response::scheduling_points::fits_from` owes and the search does not find. Each return is one case of the
-- definition, for any table of these times. Nothing overflows, since 1 ≤ C ≤ P makes the windows' executions less than
-- b + P, and base is at most b where they are added to it.
use mathlib.Core.Path.{◌≡◌, sym, ◌∙◌}
use mathlib.Core.List.{List}
use Prim.Native.Nat.{ℕ, ◌+◌, ◌*◌, ◌^◌, ◌≤◌, ◌<◌}
use native.Mathlib.Nat.{mul-le-mul_right}
use native.Mathlib.Omega.{arith}
use lib.ListN.{get_or}
use Rattle.timing.specs.declared.Timing.{Timing}
use Rattle.timing.specs.Response.{rounded_up}
use Rattle.timing.specs.Code.BoundedTimes.{no_timing, BoundedTimes}
use Rattle.timing.proofs.Laws.FitLaws.{from_last, from_whole, from_before, from_short, from_end, from_fits, from_some}
use Rattle.timing.proofs.Laws.LentTimesLaws.{lent_read}
use Rattle.timing_response.proofs.scheduling_points.+fits_from.Goals as goal

-- what task j asks
abbrev asked : List Timing → ℕ → Timing
asked timings j = get_or timings j no_timing

-- its period is positive
positive : {timings : List Timing} {tasks : ℕ} → BoundedTimes timings tasks → (j : ℕ) → j < tasks → 1 ≤ (asked timings j).period
positive times j below = omega (arith, times.positive _ below, times.within _ below)

-- what the call works out fits
sizes : {timings : List Timing} {tasks b n : ℕ} → BoundedTimes timings tasks → (j : ℕ) → j < tasks → b < 2 ^ 32
    → n ≡ rounded_up b (asked timings j).period
    → (n * (asked timings j).execution < 2 ^ 33) × (n * (asked timings j).period < b + (asked timings j).period)
sizes times j below small same =
    from_fits (positive times j below) (times.within _ below) (times.narrow _ below) small same

pub returns-then-b-base : goal.returns-then-b-base
returns-then-b-base t c = λ table few times. from_short _ _ _ c.if-b-base.true

pub returns-then-j-tasks : goal.returns-then-j-tasks
returns-then-j-tasks t c = λ table few times.
    from_end times.timeable c.args.j (omega (arith, few)) c.if-b-base.false

pub rounded_up-windows-requires : goal.rounded_up-windows-requires
rounded_up-windows-requires t c =
    let below : c.args.j < c.args.tasks = omega arith in
    (c.requires.3, positive c.requires.0 _ below, c.requires.0.narrow _ below)

pub overflow_mul-done : goal.overflow_mul-done
overflow_mul-done t c =
    omega (arith, sizes c.requires.0 c.args.j (omega arith) c.requires.3 c.rounded_up-windows.ensures)

pub overflow_add-done : goal.overflow_add-done
overflow_add-done t c =
    omega (arith, sizes c.requires.0 c.args.j (omega arith) c.requires.3 c.rounded_up-windows.ensures)

pub overflow_mul-whole : goal.overflow_mul-whole
overflow_mul-whole t c =
    let below : c.args.j < c.args.tasks = omega arith in
    omega (
      arith,
      sizes c.requires.0 c.args.j below c.requires.3 c.rounded_up-windows.ensures,
      c.requires.0.narrow _ below,
    )

pub fits_from-requires : goal.fits_from-requires
fits_from-requires t c =
    let fits = sizes c.requires.0 c.args.j (omega arith) c.requires.3 c.rounded_up-windows.ensures in
    (omega arith, (c.requires.0, omega arith, omega (arith, fits), omega arith))

pub returns-then-whole-b : goal.returns-then-whole-b
returns-then-whole-b t c = λ table few times.
    from_whole times.timeable (omega (arith, few)) (lent_read times _ (omega (arith, few))) (omega arith)
    c.rounded_up-windows.ensures c.if-whole-b.true (c.fits_from.ensures table few times)

pub fits_from-requires-2 : goal.fits_from-requires-2
fits_from-requires-2 t c =
    let fits = sizes c.requires.0 c.args.j (omega arith) c.requires.3 c.rounded_up-windows.ensures in
    (omega arith, (c.requires.0, omega arith, omega (arith, fits), omega arith))

pub overflow_sub-done : goal.overflow_sub-done
overflow_sub-done t c =
    let some = from_some (positive c.requires.0 c.args.j (omega arith)) c.rounded_up-windows.ensures c.if-whole-b.false in
    omega (arith, mul-le-mul_right (asked c.args.timings.now c.args.j).execution some)

pub overflow_sub-whole : goal.overflow_sub-whole
overflow_sub-whole t c =
    let some = from_some (positive c.requires.0 c.args.j (omega arith)) c.rounded_up-windows.ensures c.if-whole-b.false in
    omega (arith, mul-le-mul_right (asked c.args.timings.now c.args.j).period some)

pub fits_from-requires-else-fits_from : goal.fits_from-requires-else-fits_from
fits_from-requires-else-fits_from t c =
    let fits = sizes c.requires.0 c.args.j (omega arith) c.requires.3 c.rounded_up-windows.ensures in
    (omega arith, (c.requires.0, omega arith, omega (arith, fits), omega (arith, fits)))

pub returns-then-fits_from : goal.returns-then-fits_from
returns-then-fits_from t c = λ table few times.
    c.if-fits_from.true ∙ from_last times.timeable (omega (arith, few)) (lent_read times _ (omega (arith, few))) (omega arith)
    c.rounded_up-windows.ensures (sym c.if-fits_from.true ∙ c.fits_from-2.ensures table few times)

pub returns-else-fits_from : goal.returns-else-fits_from
returns-else-fits_from t c = λ table few times.
    from_before times.timeable (omega (arith, few)) (lent_read times _ (omega (arith, few))) (omega arith)
    c.rounded_up-windows.ensures c.if-whole-b.false (sym c.if-fits_from.false ∙ c.fits_from-2.ensures table few times)
    (c.fits_from-else-fits_from.ensures table few times)
