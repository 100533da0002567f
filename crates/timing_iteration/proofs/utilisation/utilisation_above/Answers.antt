-- What `timing_iteration::utilisation::utilisation_above` owes and the search does not find.
use native.Mathlib.Omega.{arith}
use Rattle.taskfile.specs.Judgement.{numbered}
use Rattle.timing.proofs.Laws.LentTimesLaws.{lent_read, lent_times}
use Rattle.timing.proofs.Laws.UtilisationLaws.{utilisation_none, utilisation_more, utilisation_found}
use Rattle.timing_iteration.proofs.utilisation.utilisation_above.Goals as goal

pub loop-k-init : goal.loop-k-init
loop-k-init c = (omega arith, utilisation_none _ _ c.requires.0)

pub returns-then-s : goal.returns-then-s
returns-then-s c = utilisation_found _ c.loop-k.invariant.1

pub with_task-s-requires : goal.with_task-s-requires
with_task-s-requires c =
    let bounded = lent_times c.args.equation.now.times.now.times_of in
    let below = c.loop-k-test.true in
    omega (arith, bounded.positive _ below, bounded.within _ below, c.requires.1)

pub loop-k-preserved : goal.loop-k-preserved
loop-k-preserved c =
    let times = c.args.equation.now.times.now.times_of in
    let below = c.loop-k-test.true in (
      c.with_task-s.ensures.few,
      utilisation_more times.timeable below (lent_read times (numbered c.loop-k.k) below) c.loop-k.invariant.1 c.with_task-s.ensures,
    )

pub returns : goal.returns
returns c = utilisation_found _ c.loop-k.invariant.1
