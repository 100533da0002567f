-- `texts_reading::line_forms::field_count` meets its contract: each arm has the number of its row's fields.
-- Assumes nothing.
use Rattle.texts.specs.Grammar.{row_of}
use Rattle.texts_reading.proofs.line_forms.field_count.Goals as goal

pub returns-in-WindowLine : goal.returns-in-WindowLine
unfolding row_of
returns-in-WindowLine c = rw c.in-WindowLine.is

pub returns-in-StartLine : goal.returns-in-StartLine
unfolding row_of
returns-in-StartLine c = rw c.in-StartLine.is

pub returns-in-TaskLine : goal.returns-in-TaskLine
unfolding row_of
returns-in-TaskLine c = rw c.in-TaskLine.is

pub returns-in-LockLine : goal.returns-in-LockLine
unfolding row_of
returns-in-LockLine c = rw c.in-LockLine.is
