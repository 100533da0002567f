-- `machine_locals::answers::ended_run` meets its contract: it is the answer with no byte written.
-- Assumes nothing.
use mathlib.Core.Path.{refl}
use mathlib.Core.List.{[]}
use Rattle.machine.specs.Buffers.{unwritten}
use Rattle.machine_locals.proofs.answers.ended_run.Goals as goal

pub returns : goal.returns
unfolding unwritten
returns c = c.written_run.ensures [] refl
