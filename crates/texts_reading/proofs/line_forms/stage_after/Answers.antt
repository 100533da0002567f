-- `texts_reading::line_forms::stage_after` meets its contract: each arm has the stage of its row.
-- Assumes nothing.
use mathlib.Core.Path.{sym}
use Rattle.texts.specs.Grammar.{row_of}
use Rattle.texts.proofs.Laws.RowLaws.{operation_stage}
use Rattle.texts_reading.proofs.line_forms.stage_after.Goals as goal

pub returns-in-WindowLine : goal.returns-in-WindowLine
unfolding row_of
returns-in-WindowLine c = rw c.in-WindowLine.is

pub returns-in-StartLine : goal.returns-in-StartLine
unfolding row_of
returns-in-StartLine c = rw c.in-StartLine.is

pub returns-in-TaskLine : goal.returns-in-TaskLine
unfolding row_of
returns-in-TaskLine c = rw c.in-TaskLine.is

pub returns-in-InstructionLine : goal.returns-in-InstructionLine
returns-in-InstructionLine c = rw c.in-InstructionLine.is (sym (operation_stage _))

pub returns-in-LockLine : goal.returns-in-LockLine
unfolding row_of
returns-in-LockLine c = rw c.in-LockLine.is
