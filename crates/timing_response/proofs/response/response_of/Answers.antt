-- `timing_response::response::response_of` meets its contract. Where the tasks above need the whole processor, no interval is a
-- solution; else the start is a lower bound of the solutions, from which the iteration finds the least, or, where the
-- tasks above meet their periods, a short iteration and the search.
-- Assumes nothing.
use mathlib.Core.Path.{sym, ap, subst, ◌∙◌}
use Prim.Native.Nat.{ℕ, ◌-◌, ◌*◌, ◌≤◌}
use native.Mathlib.Omega.{arith}
use Rattle.taskfile.specs.declared.Table.{Table}
use Rattle.taskfile.specs.declared.Task.{Task}
use Rattle.timing.proofs.Laws.IterationLaws.{overloaded, start_bound}
use Rattle.timing.proofs.Laws.LentTimesLaws.{lent_need}
use Rattle.timing.specs.Code.ResponseParts.{NeedOf, bound_of, LowerBound}
use Rattle.timing.specs.Response.{rounded_up, need}
use Rattle.timing_response.proofs.response.response_of.Goals as goal
use Rattle.timing_response.proofs.response.response_of.Goals.{After-wide_rounded_up-start}

-- the task needs some time
positive : {t : Table} {i : Task} {own : ℕ} → NeedOf t i own → 1 ≤ need t i
positive known = omega (arith, known.same, known.positive)

-- the start is a lower bound of the solutions
started : (c : After-wide_rounded_up-start) → LowerBound c.args.times.now.table.now c.args.i c.wide_rounded_up-start.result
started c =
    let known = lent_need c.args.times.now.times_of c.args.i c.requires.0 c.blocking_of.ensures.0 c.blocking_of.ensures.1 in
    let s = c.utilisation_above-s.result in
    let is = c.wide_rounded_up-start.ensures ∙ ap (λ (n : ℕ). rounded_up (n * s.whole) (s.whole - s.part)) known.same in
    subst (LowerBound _ _) (sym is) (start_bound _ _ (positive known) c.utilisation_above-s.ensures (omega arith))

pub invariant_of-equation : goal.invariant_of-equation
invariant_of-equation c = record {
  inside = c.requires.0;
  need = lent_need c.args.times.now.times_of c.args.i c.requires.0 c.blocking_of.ensures.0 c.blocking_of.ensures.1;
}

pub returns-then-s : goal.returns-then-s
unfolding bound_of
returns-then-s c =
    let known = lent_need c.args.times.now.times_of c.args.i c.requires.0 c.blocking_of.ensures.0 c.blocking_of.ensures.1 in
    sym (ap bound_of (overloaded _ _ (positive known) c.utilisation_above-s.ensures (omega arith)))

pub iterate_some-higher-requires : goal.iterate_some-higher-requires
iterate_some-higher-requires c = started (goal.at.iterate_some-higher-requires c).After-wide_rounded_up-start

pub search-requires : goal.search-requires
search-requires c = (c.iterate_some-higher.ensures, c.requires.1 c.if-fit.true)

pub iterate-requires : goal.iterate-requires
iterate-requires c = started (goal.at.iterate-requires c).After-wide_rounded_up-start
