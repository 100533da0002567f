-- What `timing_iteration::quotients::kept_interference` owes and the search does not find.
use mathlib.Core.Path.{refl}
use Prim.Native.Nat.{◌<◌, ◌^◌}
use native.Mathlib.Numerals.{add-one}
use native.Mathlib.Omega.{arith}
use lib.ListN.{get_or}
use Rattle.timing.proofs.Laws.LentTimesLaws.{lent_fits, lent_step_lem, lent_end}
use Rattle.timing.specs.Code.BoundedTimes.{no_timing}
use Rattle.timing.specs.Response.{tasks_above}
use Rattle.timing_iteration.specs.Laws.KeptLaws.{Reached, reached_kept, reached_anew, ends_fit, kept_more, more_fits, kept_set}
use Rattle.timing_iteration.proofs.quotients.kept_interference.Goals as goal
use Rattle.timing_iteration.proofs.quotients.kept_interference.Goals.{Joined-one-r, then-one-r, else-one-r}

-- after the test what is kept of task k is right
reached : (c : Joined-one-r) → Reached (get_or c.args.timings.now c.loop-k.k no_timing) c.args.r c.if-one-r.one
reached c =
    let bounded = c.requires.0 in
    let below = c.loop-k-test.true in
    let raised = kept_more bounded _ below (c.loop-k.invariant.2.held _ below) c.passed-more.ensures.0 c.passed-more.ensures.1 in
    elim c.if-one-r.branch [
      | then-one-r w ↦ rw w.one-is (reached_anew bounded _ below w.rounded_up-n.ensures)
      | else-one-r w ↦ rw w.one-is (reached_kept bounded _ below raised w.if-one-r.false)
    ]

-- the term that the turn adds fits
term : (c : Joined-one-r) → c.if-one-r.one.busy < 2 ^ 33
term c = rw (reached c).right (lent_fits c.requires.0 _ _ c.loop-k-test.true c.requires.2 refl)

pub loop-k-init : goal.loop-k-init
loop-k-init c = (omega arith, (λ t same times. omega arith), c.requires.3)

pub overflow_add-one-in-loop-k : goal.overflow_add-one-in-loop-k
overflow_add-one-in-loop-k c =
    let below = c.loop-k-test.true in
    omega (arith, more_fits c.requires.0 _ below (c.loop-k.invariant.2.held _ below) c.requires.2 c.passed-more.ensures.0)

pub rounded_up-n-requires : goal.rounded_up-n-requires
rounded_up-n-requires c =
    let times = c.requires.0 in
    let below = c.loop-k-test.true in
    (c.requires.2, omega (arith, times.positive _ below, times.within _ below), times.narrow _ below)

pub overflow_mul-one-then-one-r : goal.overflow_mul-one-then-one-r
overflow_mul-one-then-one-r c =
    omega (arith, ends_fit c.requires.0 _ c.loop-k-test.true _ c.requires.2 c.rounded_up-n.ensures)

pub overflow_mul-one-then-one-r-2 : goal.overflow_mul-one-then-one-r-2
overflow_mul-one-then-one-r-2 c =
    omega (arith, lent_fits c.requires.0 _ _ c.loop-k-test.true c.requires.2 c.rounded_up-n.ensures)

pub overflow_add-total : goal.overflow_add-total
overflow_add-total c = omega (arith, c.requires.0.few, term (goal.at.overflow_add-total c).Joined-one-r)

pub loop-k-preserved : goal.loop-k-preserved
loop-k-preserved c =
    let joined = (goal.at.loop-k-preserved c).Joined-one-r in
    let below = c.loop-k-test.true in (
      omega (arith, term joined),
      (λ t same times. omega (
        arith,
        lent_step_lem times c.loop-k.k c.args.r (omega (arith, same, below)) refl,
        c.loop-k.invariant.1 t same times,
        (reached joined).right,
      )),
      kept_set c.loop-k.invariant.2 c.requires.0.few _ below (reached joined).kept,
    )

pub returns-clause-upper_bound : goal.returns-clause-upper_bound
unfolding tasks_above
returns-clause-upper_bound c = (
  omega (arith, c.requires.0.few),
  λ t same times. rw (← add-one)
      (omega (
        arith,
        lent_end times c.loop-k.k c.args.r (omega (arith, same, c.loop-k-test.false)),
        c.loop-k.invariant.1 t same times,
      )),
)
