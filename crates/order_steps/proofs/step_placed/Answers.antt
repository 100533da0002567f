-- `order_steps::step_placed` meets its contract: the job's number and its instruction are read where it stands, and what it
-- performs there is the definition's instruction on the store of the state before it was placed.
-- Assumes nothing.
use mathlib.Core.Path.{sym, subst}
use Prim.Native.Nat.{ℕ, ◌<◌}
use Rattle.order_states.proofs.Laws.StateReads.{frame_job}
use Rattle.order_steps.specs.Laws.EffectWrites.{step_made_lem}
use Rattle.order_steps.proofs.step_placed.Goals as goal

pub invariant_of-x : goal.invariant_of-x
invariant_of-x c = record { below = subst (λ (n : ℕ). n < 32) (frame_job _ _) c.requires.placed.0 }

pub returns : goal.returns
returns c = λ before f state put.
    let done = c.perform_in-failed.ensures in
    step_made_lem c.requires.bounds.0 put _ _ _ (sym (frame_job _ _)) c.next_in.ensures
    c.instruction_at-instruction.ensures state c.requires.placed.2 done.failed done.made
    (c.ends.ensures _ _ _) c.note.ensures
