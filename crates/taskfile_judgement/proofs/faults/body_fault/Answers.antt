-- `taskfile_judgement::faults::body_fault` meets its contract. Each arm is one case of the fault of 7 by the body's array.
-- Assumes nothing.
use native.Mathlib.Omega.{arith}
use Rattle.taskfile.proofs.Laws.JudgingLaws.{end_sound, skip_between, skip_beyond, other_last}
use Rattle.taskfile_judgement.proofs.faults.body_fault.Goals as goal
use Rattle.taskfile_judgement.proofs.faults.body_fault.Goals.{in_default-via-then-here-lt6, in_default-via-else-here-lt6+else-here-lt8}

pub returns-in-0 : goal.returns-in-0
returns-in-0 c = end_sound _ _ c.requires c.in-0.is

pub returns-in-6 : goal.returns-in-6
returns-in-6 c = skip_beyond _ _ c.requires (skip_between _ (omega arith) (omega arith))

pub returns-in_default : goal.returns-in_default
returns-in_default c =
    elim c.in_default.branch [
      | in_default-via-then-here-lt6 w ↦ other_last _ _ c.requires (λ e. omega arith) (λ e. omega arith) (λ e. omega arith)
      | in_default-via-else-here-lt6+else-here-lt8 w ↦
          other_last _ _ c.requires (λ e. omega arith) (λ e. omega arith) (λ e. omega arith)
    ]
