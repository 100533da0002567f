-- `taskfile_chains::chains::next_record` meets its contract: the index that byte 1 holds is the next one.
use mathlib.Core.Path.{refl}
use Rattle.taskfile.specs.Records.{next}
use Rattle.taskfile_chains.proofs.chains.next_record.Goals as goal

pub returns : goal.returns
unfolding next
returns c = (refl, c.held_index.ensures)
