-- `machine_locals::answers::refused_run` meets its contract: the definition computes to the answer.
-- Assumes nothing.
use mathlib.Core.Path.{refl}
use Rattle.machine.specs.Ends.{no_store, no_flags}
use Rattle.machine.specs.Buffers.{run_answer, unwritten}
use Rattle.machine_locals.proofs.answers.refused_run.Goals as goal

pub returns : goal.returns
unfolding run_answer unwritten no_store no_flags
returns c = refl
