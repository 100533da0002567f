-- What `matching_plans::Trace::follow` owes and the search does not find.
use mathlib.Core.Path.{refl}
use Rattle.matching_plans.proofs.Laws.NotingLaws.{reaches_next, reaches_end}
use Rattle.matching_plans.proofs.Trace.follow.Goals as goal

pub loop-byte-init : goal.loop-byte-init
loop-byte-init c = refl

pub loop-byte-preserved : goal.loop-byte-preserved
loop-byte-preserved c =
    reaches_next _ _ _ _ _ _ _ c.loop-byte.invariant c.loop-byte-test.true c.step.ensures

pub returns : goal.returns
returns c = reaches_end _ _ _ _ _ _ _ c.loop-byte.invariant c.loop-byte-test.false
