-- What `timing_iteration::iteration::iterate` owes and the search does not find.
use mathlib.Core.Path.{◌≡◌, refl, sym, ap, ◌∙◌}
use Prim.Native.Nat.{◌+◌, ◌≤◌}
use native.Mathlib.Omega.{arith}
use Rattle.timing.proofs.Laws.IterationLaws.{iteration_found, iteration_higher, iteration_past}
use Rattle.timing.proofs.Laws.LentTimesLaws.{lent_read, lent_times}
use Rattle.timing.specs.Response.{demand}
use Rattle.timing.specs.Code.ResponseParts.{bound_of}
use Rattle.timing.proofs.Laws.TimeableLaws.{demand_read}
use Rattle.timing_iteration.specs.Laws.KeptLaws.{kept_longer}
use Rattle.timing_iteration.proofs.iteration.iterate.Goals as goal
use Rattle.timing_iteration.proofs.iteration.iterate.Goals.{After-kept_interference-busy}

-- what the turn works out is the demand
next : (c : After-kept_interference-busy) → let e = c.args.equation.now in
    e.own + c.kept_interference-busy.result ≡ demand e.times.now.table.now e.task c.loop-r.r
next c =
    let e = c.args.equation.now in
    demand_read _ _ _ e.need.same (c.kept_interference-busy.ensures.upper_bound.1 _ refl e.times.now.times_of)

-- which is not below r
grows : (c : After-kept_interference-busy) → c.loop-r.r ≤ c.args.equation.now.own + c.kept_interference-busy.result
grows c = omega (arith, next c, c.loop-r.invariant.0.rises)

pub kept_interference-busy-requires : goal.kept_interference-busy-requires
kept_interference-busy-requires c =
    let e = c.args.equation.now in
    let bounded = lent_times e.times.now.times_of in
    (bounded, e.inside, omega (arith, bounded.narrow _ e.inside), c.loop-r.invariant.1)

pub returns-then-next-r : goal.returns-then-next-r
unfolding bound_of
returns-then-next-r c =
    let here = (goal.at.returns-then-next-r c).After-kept_interference-busy in
    let equation = c.args.equation.now in
    let read = lent_read equation.times.now.times_of equation.task equation.inside in
    sym (ap bound_of (iteration_found c.loop-r.invariant.0 (sym (next here) ∙ c.if-next-r.true) (omega (arith, read.period))))

pub loop-r-smaller : goal.loop-r-smaller
loop-r-smaller c = omega (arith, grows (goal.at.loop-r-smaller c).After-kept_interference-busy)

pub loop-r-preserved : goal.loop-r-preserved
loop-r-preserved c =
    let here = (goal.at.loop-r-preserved c).After-kept_interference-busy in
    (rw (next here) (iteration_higher c.loop-r.invariant.0), kept_longer c.kept_interference-busy.ensures.kept (grows here))

pub returns : goal.returns
unfolding bound_of
returns c =
    let equation = c.args.equation.now in
    let read = lent_read equation.times.now.times_of equation.task equation.inside in
    sym (ap bound_of (iteration_past c.loop-r.invariant.0 (omega (arith, read.period))))
