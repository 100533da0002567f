-- `plan_pairs::pair_rules::Marked::end_round` meets its contract.
-- Assumes nothing.
use Rattle.plan_pairs.specs.Laws.StepLaws.{end_none, end_last, round_of_step}
use Rattle.plan_pairs.proofs.pair_rules.Marked.end_round.Goals as goal

pub returns-then-count-eq0 : goal.returns-then-count-eq0
returns-then-count-eq0 c = end_none _ _ c.count-count.ensures.counts c.if-count-eq0.true

pub returns : goal.returns
returns c = end_last _ _ c.count-count.ensures.counts c.if-count-eq0.false (round_of_step c.step.ensures)
