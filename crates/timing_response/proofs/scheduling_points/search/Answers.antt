-- What `timing_response::scheduling_points::search` owes and the search does not find.
use mathlib.Core.Path.{◌≡◌, refl, sym, ap, ◌∙◌}
use mathlib.Core.Bool.{false≢true}
use Prim.Native.Nat.{ℕ, ◌^◌, ◌≤◌, ◌<◌}
use native.Mathlib.Omega.{arith}
use lib.ListN.{get_or}
use Rattle.taskfile.specs.Tables.{task_of}
use Rattle.timing.proofs.Laws.IterationLaws.{iteration_found, iteration_past}
use Rattle.timing.proofs.Laws.LentTimesLaws.{lent_read, lent_times}
use Rattle.timing.specs.Code.BoundedTimes.{no_timing}
use Rattle.timing.specs.Response.{need}
use Rattle.timing.specs.Code.ResponseParts.{bound_of}
use Rattle.timing_demands.specs.declared.demands.Equation.{Equation}
use Rattle.timing.proofs.Laws.HalvingLaws.{Between, done_read, search_none, search_start, search_down, search_up, search_found}
use Rattle.timing_response.proofs.scheduling_points.search.Goals as goal

-- the period, as it is lent
period : (e : Equation) → (get_or e.times.now.timings e.task.0 no_timing).period ≡ (task_of e.times.now.table.now e.task).period
period e = (lent_read e.times.now.times_of e.task e.inside).period

-- the interval looked at is no longer than the period
narrow : (e : Equation) {lo hi : ℕ} → Between e.times.now.table.now e.task lo hi → hi < 2 ^ 32
narrow e between =
    omega (arith, period e, (lent_times e.times.now.times_of).narrow e.task.0 e.inside, between.within)

-- the task needs some time
positive : (e : Equation) → 1 ≤ need e.times.now.table.now e.task
positive e = omega (arith, e.need.same, e.need.positive)

pub returns-then-period-start : goal.returns-then-period-start
unfolding bound_of
returns-then-period-start c =
    sym (ap bound_of (iteration_past c.requires.0 (omega (arith, period c.args.equation.now))))

pub returns-then-demand_of-start : goal.returns-then-demand_of-start
unfolding bound_of
returns-then-demand_of-start c =
    let solves = sym c.demand_of.ensures ∙ c.if-demand_of-start.true in
    sym (ap bound_of (iteration_found c.requires.0 solves (omega (arith, period c.args.equation.now))))

pub fits_from-requires : goal.fits_from-requires
fits_from-requires c =
    let e = c.args.equation.now in
    let bounded = lent_times e.times.now.times_of in
    (bounded, omega (arith, e.inside), omega (arith, e.need.narrow), bounded.narrow _ e.inside)

pub returns-then-not-fits_from : goal.returns-then-not-fits_from
unfolding bound_of
returns-then-not-fits_from c =
    let e = c.args.equation.now in
    sym (ap bound_of (search_none _ _ (positive e) (period e) (λ done.
    false≢true (sym c.if-not-fits_from.true ∙ (done_read e.need c.requires.1 (c.fits_from.ensures _ refl e.times.now.times_of)).1 done))))

pub loop-lo-init : goal.loop-lo-init
loop-lo-init c =
    let e = c.args.equation.now in
    let fits = done_read e.need c.requires.1 (c.fits_from.ensures _ refl e.times.now.times_of) in
    search_start c.requires.0 (period e) (omega arith) (fits.0 c.if-not-fits_from.false)

pub fits_from-requires-in-loop-lo : goal.fits_from-requires-in-loop-lo
fits_from-requires-in-loop-lo c =
    let e = c.args.equation.now in (
      lent_times e.times.now.times_of,
      omega (arith, e.inside),
      omega (arith, e.need.narrow),
      omega (arith, narrow e c.loop-lo.invariant),
    )

pub loop-lo-preserved-then-fits_from : goal.loop-lo-preserved-then-fits_from
loop-lo-preserved-then-fits_from c =
    let e = c.args.equation.now in
    let done = (done_read e.need c.requires.1 (c.fits_from-in-loop-lo.ensures _ refl e.times.now.times_of)).0 c.if-fits_from.true in
    search_down (positive e) c.loop-lo.invariant (omega arith) (omega arith) done

pub loop-lo-preserved : goal.loop-lo-preserved
loop-lo-preserved c =
    let e = c.args.equation.now in
    search_up (positive e) c.loop-lo.invariant (omega arith) (λ done.
    false≢true (sym c.if-fits_from.false ∙ (done_read e.need c.requires.1 (c.fits_from-in-loop-lo.ensures _ refl e.times.now.times_of)).1 done))

pub returns : goal.returns
unfolding bound_of
returns c = sym (ap bound_of (search_found (positive c.args.equation.now) c.loop-lo.invariant c.loop-lo-test.false))
