-- `timing_demands::blocking::blocks` meets its contract: the two tests are those of the definition.
-- Assumes nothing.
use mathlib.Core.Path.{◌∙◌}
use borrow.Author.Tests.{lt-leb}
use Rattle.timing.proofs.Laws.BlockingLaws.{blocks_low, blocks_high}
use Rattle.timing_demands.proofs.blocking.blocks.Goals as goal

pub returns-then-i-t : goal.returns-then-i-t
returns-then-i-t c = blocks_high c.requires.0 _ _ c.requires.2 c.if-i-t.true c.acquired_below.ensures

pub returns-else-i-t : goal.returns-else-i-t
returns-else-i-t c = lt-leb _ _ c.if-i-t.false ∙ blocks_low c.requires.0 _ _ c.requires.2 c.if-i-t.false
