-- `timing_iteration::utilisation::with_rounded` meets its contract: as few parts are made one unit as leave room for c times as many, and both
-- utilisations are rounded down to parts of such units.
-- Assumes nothing.
use native.Mathlib.Nat.{le-div_iff_mul-le}
use native.Mathlib.Omega.{arith}
use Prim.Native.Nat.{◌-◌, ◌/◌, ◌^◌}
use Rattle.timing.proofs.Laws.ResponseLaws.{rounded_up_positive}
use Rattle.timing.proofs.Laws.UtilisationLaws.{Grouped, quotient_grouped, rounded_product, rounded_fits, rounded_most}
use Rattle.timing_iteration.proofs.utilisation.with_rounded.Goals as goal
use Rattle.timing_iteration.proofs.utilisation.with_rounded.Goals.{After-wide_rounded_up-whole}

-- the whole as the function groups it
group : (c : After-wide_rounded_up-whole)
    → Grouped c.args.s.whole ((2 ^ 64 - 1) / c.args.c) c.wide_rounded_up-unit.result c.wide_rounded_up-whole.result
group c =
    quotient_grouped _ _ (omega arith) ((le-div_iff_mul-le c.requires.positive).1 (omega arith)) c.wide_rounded_up-unit.ensures c.wide_rounded_up-whole.ensures

pub wide_rounded_up-whole-requires : goal.wide_rounded_up-whole-requires
wide_rounded_up-whole-requires c = (omega arith, rw c.wide_rounded_up-unit.ensures (rounded_up_positive _ _ (omega arith)))

pub nonzero_div-kept : goal.nonzero_div-kept
nonzero_div-kept c = (group (goal.at.nonzero_div-kept c).After-wide_rounded_up-whole).unit

pub overflow_mul-added : goal.overflow_mul-added
overflow_mul-added c = omega (arith, rounded_product c.requires (group (goal.at.overflow_mul-added c).After-wide_rounded_up-whole))

pub overflow_add-result : goal.overflow_add-result
overflow_add-result c = omega (arith, rounded_fits c.requires (group (goal.at.overflow_add-result c).After-wide_rounded_up-whole))

pub returns : goal.returns
returns c = rounded_most c.requires (group (goal.at.returns c).After-wide_rounded_up-whole)
