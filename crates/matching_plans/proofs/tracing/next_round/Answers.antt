-- `matching_plans::tracing::next_round` meets its contract: the last round, and any other.
-- Assumes nothing.
use Rattle.matching_plans.proofs.Laws.NotingLaws.{last_kept, next_noted}
use Rattle.matching_plans.proofs.tracing.next_round.Goals as goal

pub returns-then-r : goal.returns-then-r
returns-then-r c =
    let kept = last_kept c.args.r c.if-r.true _ c.args.s.now in record { round = kept.0; guesses = kept.1 }

pub returns : goal.returns
returns c =
    let noted = next_noted c.args.r c.if-r.false _ _ c.bytes_at.ensures c.put_store.ensures in
    record { round = noted.0; guesses = noted.1 }
