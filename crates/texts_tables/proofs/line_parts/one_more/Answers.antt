-- `texts_tables::line_parts::one_more` meets its contract.
-- Assumes nothing.
use Rattle.std.proofs.Common.{arith}
use Rattle.std.proofs.lemmas.Grind.{common_steps}
use Rattle.texts.specs.Code.AddedLines.{counted}
use Rattle.texts_tables.proofs.line_parts.one_more.Goals as goal

pub returns : goal.returns
unfolding counted
returns c = grind (arith, common_steps)
