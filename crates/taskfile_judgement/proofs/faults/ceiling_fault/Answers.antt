-- `taskfile_judgement::faults::ceiling_fault` meets its contract. Each arm is one case of the fault of 9.
-- Assumes nothing.
use native.Mathlib.Omega.{arith}
use borrow.Author.Tests.{le-leb, lt-leb, ne_eqb}
use Rattle.std.proofs.Math.Bool.{or-false}
use Rattle.taskfile.specs.Code.JudgingParts.{ceiling_fault_in}
use Rattle.taskfile.specs.Judgement.{is_acquire, is_release}
use Rattle.taskfile_judgement.proofs.faults.ceiling_fault.Goals as goal

pub returns-then-ceilings-lock : goal.returns-then-ceilings-lock
unfolding ceiling_fault_in is_acquire is_release
returns-then-ceilings-lock c = rw (c.in-9.is, le-leb _ _ c.if-ceilings-lock.true)

pub returns-else-ceilings-lock : goal.returns-else-ceilings-lock
unfolding ceiling_fault_in is_acquire is_release
returns-else-ceilings-lock c = rw (c.in-9.is, lt-leb _ _ c.if-ceilings-lock.false)

pub returns-in-10 : goal.returns-in-10
unfolding ceiling_fault_in is_acquire is_release
returns-in-10 c = rw (c.in-10.is, or-false)

pub returns-in_default : goal.returns-in_default
unfolding ceiling_fault_in is_acquire is_release
returns-in_default c = rw (ne_eqb c.args.here.operation 9 (λ e. omega arith), ne_eqb c.args.here.operation 10 (λ e. omega arith))
