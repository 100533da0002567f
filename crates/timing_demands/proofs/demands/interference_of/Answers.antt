-- What `timing_demands::demands::interference_of` owes and the search does not find.
use native.Mathlib.Numerals.{add-one}
use native.Mathlib.Omega.{arith}
use Rattle.timing.proofs.Laws.LentTimesLaws.{lent_fits, lent_step_lem, lent_end}
use Rattle.timing.specs.Response.{tasks_above}
use Rattle.timing_demands.proofs.demands.interference_of.Goals as goal

pub loop-k-init : goal.loop-k-init
loop-k-init c = (omega arith, λ t same times. omega arith)

pub rounded_up-requires : goal.rounded_up-requires
rounded_up-requires c =
    let times = c.requires.0 in
    let below = c.loop-k-test.true in
    (c.requires.2, omega (arith, times.positive _ below, times.within _ below), times.narrow _ below)

pub overflow_mul-total : goal.overflow_mul-total
overflow_mul-total c = omega (arith, lent_fits c.requires.0 _ _ c.loop-k-test.true c.requires.2 c.rounded_up.ensures)

pub overflow_add-total : goal.overflow_add-total
overflow_add-total c = omega (arith, lent_fits c.requires.0 _ _ c.loop-k-test.true c.requires.2 c.rounded_up.ensures)

pub loop-k-preserved : goal.loop-k-preserved
loop-k-preserved c = (
  omega (arith, lent_fits c.requires.0 _ _ c.loop-k-test.true c.requires.2 c.rounded_up.ensures),
  λ t same times. omega (
    arith,
    lent_step_lem times c.loop-k.k c.args.r (omega (arith, same, c.loop-k-test.true)) c.rounded_up.ensures,
    c.loop-k.invariant.1 t same times,
  ),
)

pub returns : goal.returns
unfolding tasks_above
returns c = (
  omega (arith, c.requires.0.few),
  λ t same times. rw (← add-one)
      (omega (
        arith,
        lent_end times c.loop-k.k c.args.r (omega (arith, same, c.loop-k-test.false)),
        c.loop-k.invariant.1 t same times,
      )),
)
