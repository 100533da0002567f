-- `order_turns::starts::start_of` meets its contract: each return is one case of the definition.
-- Assumes nothing.
use Rattle.std.proofs.Common.{ap, Some}
use mathlib.Core.Bool.{not}
use mathlib.Core.Path.{sym, ◌∙◌}
use Rattle.order_states.proofs.Laws.StartLaws as start
use Rattle.order_states.proofs.Laws.StateReads.{start_none_read, start_due_read}
use Rattle.order_turns.proofs.starts.start_of.Goals as goal

pub start_turn-requires : goal.start_turn-requires
start_turn-requires c = (start.starts_says _ _ _ _ _ (sym c.may_start.ensures ∙ c.if-may_start.true)).task

pub returns-then-may_start : goal.returns-then-may_start
returns-then-may_start c =
    ap Some c.start_turn.ensures ∙ start_due_read _ _ _ _ _ c.level-low.ensures c.may_start.ensures (ap not c.if-may_start.true)

pub returns-else-may_start : goal.returns-else-may_start
returns-else-may_start c =
    c.no_turn.ensures ∙ sym (start_none_read _ _ _ _ _ c.level-low.ensures c.may_start.ensures (ap not c.if-may_start.false))
