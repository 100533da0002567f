-- `machine_locals::answers::written_run` meets its contract: the definition computes to the answer.
-- Assumes nothing.
use mathlib.Core.Path.{refl}
use Rattle.machine.specs.Buffers.{run_answer}
use Rattle.machine_locals.proofs.answers.written_run.Goals as goal

pub returns : goal.returns
unfolding run_answer
returns c bytes e = rw e refl
