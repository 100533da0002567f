-- `taskfile_records::records::empty_task` meets its contract: the two compute to the same, since its body holds nothing but End.
-- Assumes nothing.
use mathlib.Core.Path.{refl}
use Rattle.notation.specs.Lists.{padded}
use Rattle.taskfile.specs.Tables.{no_task}
use Rattle.taskfile_records.proofs.records.empty_task.Goals as goal

pub returns : goal.returns
unfolding no_task padded
returns c = rw c.end_instruction.ensures refl
