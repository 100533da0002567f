-- `byte_at` meets its contract: a byte of the file is read where the definition reads it, and past the file's end
-- both are 0.
-- Assumes nothing.
use mathlib.Core.Path.{refl, sym}
use Rattle.taskfile.proofs.Laws.RecordLaws.{byte_at_past}
use Rattle.taskfile.specs.Records.{byte_at}
use Rattle.taskfile_records.proofs.records.byte_at.Goals as goal

pub returns-then-at-file : goal.returns-then-at-file
unfolding byte_at
returns-then-at-file c = refl

pub returns-else-at-file : goal.returns-else-at-file
returns-else-at-file c = sym (byte_at_past _ _ _ c.if-at-file.false)
