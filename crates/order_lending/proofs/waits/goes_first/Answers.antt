-- `order_lending::waits::goes_first` meets its contract: the two returns are the cases of the definition.
-- Assumes nothing.
use Rattle.std.proofs.Common.{ap, not, eq-eqb}
use mathlib.Core.Path.{sym, ◌∙◌}
use Rattle.order_states.proofs.Laws.WaitLaws.{precedes_itself, precedes_other}
use Rattle.order_lending.proofs.waits.goes_first.Goals as goal

pub returns-then-x-y : goal.returns-then-x-y
returns-then-x-y c = c.comes_before.ensures ∙ sym (precedes_other _ _ _ _ c.if-x-y.true)

pub returns-else-x-y : goal.returns-else-x-y
returns-else-x-y c = ap not (eq-eqb _ _ c.if-x-y.false) ∙ sym (precedes_itself _ _ _ _ c.if-x-y.false)
