-- `texts_reading::line_forms::stages_of` meets its contract: each arm has the stages of its row.
-- Assumes nothing.
use mathlib.Core.Path.{refl, sym}
use Rattle.texts.specs.Grammar.{row_of}
use Rattle.texts.proofs.Laws.RowLaws.{operation_earliest, operation_latest}
use Rattle.texts_reading.proofs.line_forms.stages_of.Goals as goal

pub returns-in-WindowLine : goal.returns-in-WindowLine
unfolding row_of
returns-in-WindowLine c = rw c.in-WindowLine.is (record { earliest = refl; latest = refl })

pub returns-in-StartLine : goal.returns-in-StartLine
unfolding row_of
returns-in-StartLine c = rw c.in-StartLine.is (record { earliest = refl; latest = refl })

pub returns-in-TaskLine : goal.returns-in-TaskLine
unfolding row_of
returns-in-TaskLine c = rw c.in-TaskLine.is (record { earliest = refl; latest = refl })

pub returns-in-InstructionLine : goal.returns-in-InstructionLine
returns-in-InstructionLine c =
    rw c.in-InstructionLine.is (record {
      earliest = sym (operation_earliest _);
      latest = sym (operation_latest _);
    })

pub returns-in-LockLine : goal.returns-in-LockLine
unfolding row_of
returns-in-LockLine c = rw c.in-LockLine.is (record { earliest = refl; latest = refl })
