-- `order_replay::ends::finished` meets its contract: the two returns are the two cases of the test.
-- Assumes nothing.
use Rattle.std.proofs.Common.{◌∙◌, ne_eqb}
use Rattle.order_states.proofs.Laws.ReplayLoopLaws.{finished_deep, finished_flat}
use Rattle.order_states.specs.Code.StateBytes.{snapshot_in}
use Rattle.order_replay.proofs.ends.finished.Goals as goal

pub returns-then-s-eq0 : goal.returns-then-s-eq0
unfolding snapshot_in
returns-then-s-eq0 c = finished_flat _ _ c.if-s-eq0.true c.some_unended.ensures

pub returns-else-s-eq0 : goal.returns-else-s-eq0
unfolding snapshot_in
returns-else-s-eq0 c = ne_eqb _ _ c.if-s-eq0.false ∙ finished_deep _ _ c.if-s-eq0.false
