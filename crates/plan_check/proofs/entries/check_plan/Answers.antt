-- `plan_check::entries::check_plan` meets its contract: its answer is that of what the plan comes to.
-- Assumes nothing.
use Rattle.std.proofs.Common.{ap, ◌∙◌}
use Rattle.notation.specs.Checked.{Checked}
use Rattle.machine.specs.declared.End.{End}
use Rattle.machine.specs.Buffers.{run_answer, unwritten}
use Rattle.plan.specs.Plans.{plan_answer}
use Rattle.plan_check.proofs.entries.check_plan.Goals as goal
use Prim.Native.Nat.{ℕ}

pub returns : goal.returns
unfolding plan_answer
returns c = c.ended_answer.ensures ∙ ap (λ (k : Checked ℕ End). run_answer (unwritten k)) c.check_file.ensures
