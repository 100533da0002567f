-- `plan_pairs::pair_rules::Marked::start_round` meets its contract.
-- Assumes nothing.
use Rattle.std.proofs.Common.{◌∙◌}
use Rattle.plan_pairs.specs.Laws.StepLaws.{first_started}
use Rattle.plan_pairs.proofs.pair_rules.Marked.start_round.Goals as goal

pub returns : goal.returns
returns c = c.start_round.ensures ∙ first_started _ _
