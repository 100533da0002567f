-- Demand 3 of the entries is proved: what a caller sees of both conversions, the replay and the plan check.
-- Assumes nothing.
use Rattle.matching.specs.EntryDemand3.{EntryMatchingDemand}
use Rattle.matching.proofs.Laws.EntryLaws as entries

pub entry_demand3 : EntryMatchingDemand
entry_demand3 f a isAccepted planBuffer orderBuffer planFits orderFits =
    record {
      orders = entries.order_answers f isAccepted planBuffer planFits;
      plans = entries.plan_answers f isAccepted orderBuffer orderFits;
      replays = entries.replay_answers f isAccepted;
      checks = entries.check_answers f isAccepted;
      order_back = entries.order_returns f isAccepted planBuffer orderBuffer planFits orderFits;
      plan_back = entries.plan_returns f isAccepted planBuffer orderBuffer planFits orderFits;
    }
