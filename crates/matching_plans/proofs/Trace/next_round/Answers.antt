-- `matching_plans::Trace::next_round` meets its contract: its round and its guesses are the next round's.
-- Assumes nothing.
use Rattle.matching_plans.proofs.Laws.NotingLaws.{round_on}
use Rattle.matching_plans.proofs.Trace.next_round.Goals as goal

pub returns : goal.returns
returns c = round_on c.args.self.now c.next_round-self.ensures.round c.next_round-self.ensures.guesses
