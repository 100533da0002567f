-- `machine_locals::values::highest` meets its contract: it asks what the definition asks.
-- Assumes nothing.
use Rattle.taskfile.specs.Code.Choices.{highest}
use Rattle.taskfile.proofs.Laws.ChoiceLaws.{at_pick, at_other}
use Rattle.machine_locals.proofs.values.highest.Goals as goal

pub returns-then-i-eq-PICK : goal.returns-then-i-eq-PICK
unfolding highest
returns-then-i-eq-PICK c = let i = c.args.i in at_pick i i.b 0 c.if-i-eq-PICK.true

pub returns-else-i-eq-PICK : goal.returns-else-i-eq-PICK
unfolding highest
returns-else-i-eq-PICK c = let i = c.args.i in at_other i i.b 0 c.if-i-eq-PICK.false
