-- `taskfile_chains::chains::read_body` meets its contract: an empty body is refused, and any other is its chain of instructions.
-- Assumes nothing.
use Rattle.taskfile.proofs.Laws.ChainReading.{body_empty, body_follows}
use Rattle.taskfile_chains.proofs.chains.read_body.Goals as goal

pub returns-then-first-eq0 : goal.returns-then-first-eq0
returns-then-first-eq0 c reached marked =
    rw c.at.ensures (body_empty _ _ _ c.index_at-first.ensures _ reached c.if-first-eq0.true)

pub returns : goal.returns
returns c reached marked =
    body_follows _ _ _ c.index_at-first.ensures _ reached c.if-first-eq0.false _ (c.read_chain.ensures reached marked)
