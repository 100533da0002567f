-- `texts_entries::at_line` meets its contract: the header's line is its place, and any other is one more.
-- Assumes nothing.
use Rattle.texts_entries.specs.Laws.FiledLaws.{lined_first, lined_later}
use Rattle.texts_entries.proofs.at_line.Goals as goal

pub returns-then-x-eq0 : goal.returns-then-x-eq0
returns-then-x-eq0 c = lined_first _ c.if-x-eq0.true

pub returns : goal.returns
returns c = lined_later _ c.if-x-eq0.false
