-- `timing_demands::demands::demand_of` meets its contract: the two terms are those of `demand`, and their sum fits.
-- Assumes nothing.
use mathlib.Core.Path.{refl}
use Rattle.timing.proofs.Laws.LentTimesLaws.{lent_times}
use Rattle.timing.proofs.Laws.TimeableLaws.{demand_read}
use Rattle.timing_demands.proofs.demands.demand_of.Goals as goal

pub interference_of-requires : goal.interference_of-requires
interference_of-requires c =
    (lent_times c.args.equation.now.times.now.times_of, c.args.equation.now.inside, c.requires)

pub returns : goal.returns
returns c =
    demand_read _ _ _ c.args.equation.now.need.same
    (c.interference_of.ensures.1 _ refl c.args.equation.now.times.now.times_of)
