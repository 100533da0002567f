-- `machine_locals::run_answers::ended_answer` meets its contract: it is the answer with no byte written.
-- Assumes nothing.
use Rattle.std.proofs.Common.{refl, Ok, Err}
use Rattle.notation.specs.Checked.{mapped}
use Rattle.taskfile.specs.Code.Refusals.{outcome}
use Rattle.machine.specs.Buffers.{unwritten}
use Rattle.machine_locals.proofs.run_answers.ended_answer.Goals as goal

pub returns-in-Ok : goal.returns-in-Ok
unfolding unwritten mapped
returns-in-Ok c = rw c.in-Ok.is (c.written_answer.ensures (unwritten (outcome (Ok c.in-Ok.end))) refl)

pub returns-in-Err : goal.returns-in-Err
unfolding unwritten mapped
returns-in-Err c = rw c.in-Err.is (c.written_answer-in-Err.ensures (unwritten (outcome (Err c.in-Err.e))) refl)
