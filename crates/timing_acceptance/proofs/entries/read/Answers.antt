-- `timing_acceptance::entries::read` meets its contract: a refusal and an accepted file.
-- Assumes nothing.
use mathlib.Core.Path.{◌∙◌}
use Rattle.timing_acceptance.specs.Laws.ReadLaws.{read_refused, read_timed}
use Rattle.timing_acceptance.proofs.entries.read.Goals as goal

pub returns-in-Ok : goal.returns-in-Ok
returns-in-Ok c = read_timed _ c.in-Ok.ensures

pub returns-in-Err : goal.returns-in-Err
returns-in-Err c = c.refused_read.ensures ∙ rw c.number.ensures (read_refused _ c.in-Err.ensures)
