-- `texts_reading::line_forms::field_limit` meets its contract: each arm has the limit of its row's fields.
-- Assumes nothing.
use mathlib.Core.Path.{sym, subst}
use Rattle.texts_reading.specs.Laws.RowOfLaws.{Limit, limit_window, limit_start, limit_task}
use Rattle.texts_reading.specs.Laws.RowOfLaws.{limit_operation, limit_ceiling, limit_holding}
use Rattle.texts_reading.proofs.line_forms.field_limit.Goals as goal

pub returns-in-WindowLine : goal.returns-in-WindowLine
returns-in-WindowLine c = subst (Limit _ _) (sym c.in-WindowLine.is) (limit_window _) c.requires

pub returns-in-StartLine : goal.returns-in-StartLine
returns-in-StartLine c = subst (Limit _ _) (sym c.in-StartLine.is) (limit_start _) c.requires

pub returns-in-TaskLine : goal.returns-in-TaskLine
returns-in-TaskLine c = subst (Limit _ _) (sym c.in-TaskLine.is) (limit_task _) c.requires

pub returns-in-InstructionLine : goal.returns-in-InstructionLine
returns-in-InstructionLine c = subst (Limit _ _) (sym c.in-InstructionLine.is) (limit_operation _ _) c.requires

pub returns-then-k-eq0 : goal.returns-then-k-eq0
returns-then-k-eq0 c =
    subst (Limit _ _) (sym c.in-LockLine.is) (limit_ceiling _ c.if-k-eq0.true)
    c.requires

pub returns-else-k-eq0 : goal.returns-else-k-eq0
returns-else-k-eq0 c =
    subst (Limit _ _) (sym c.in-LockLine.is) (limit_holding _ c.if-k-eq0.false)
    c.requires
