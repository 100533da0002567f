-- `taskfile_reader::empty_table` meets its contract: every entry is the empty task.
-- Assumes nothing.
use mathlib.Core.Path.{refl}
use Rattle.taskfile.specs.Tables.{empty_table}
use Rattle.taskfile_reader.proofs.empty_table.Goals as goal

pub returns : goal.returns
unfolding empty_table
returns c = rw c.empty_task.ensures refl
