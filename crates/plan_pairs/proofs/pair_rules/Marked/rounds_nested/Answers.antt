-- `plan_pairs::pair_rules::Marked::rounds_nested` meets its contract.
-- Assumes nothing.
use Rattle.std.proofs.Common.{le-leb}
use Rattle.std.proofs.lemmas.Bool.{lt-leb}
use Rattle.plan_marks.specs.Code.PairParts.{rounds_nested}
use Rattle.plan_pairs.specs.Laws.RuleLaws.{first_fails, second_left, earlier_read, not_later_read}
use Rattle.plan_pairs.proofs.pair_rules.Marked.rounds_nested.Goals as goal

pub returns-then-start_round : goal.returns-then-start_round
unfolding rounds_nested
returns-then-start_round c =
    second_left (not_later_read c.start_round.ensures c.start_round-2.ensures) (le-leb _ _ c.if-start_round.true)
    (earlier_read c.end_round.ensures c.end_round-then-start_round.ensures)

pub returns-else-start_round : goal.returns-else-start_round
unfolding rounds_nested
returns-else-start_round c =
    first_fails _ (not_later_read c.start_round.ensures c.start_round-2.ensures) (lt-leb _ _ c.if-start_round.false)
