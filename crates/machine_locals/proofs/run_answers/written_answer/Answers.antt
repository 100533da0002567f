-- `machine_locals::run_answers::written_answer` meets its contract: the definition computes to the answer.
-- Assumes nothing.
use Rattle.std.proofs.Common.{◌≡◌, ℕ, length, sym, ap}
use Rattle.notation.specs.Checked.{Checked, mapped, passed, refused}
use Rattle.machine.specs.declared.End.{End}
use Rattle.machine.specs.declared.RunAnswer.{RunAnswer}
use Rattle.machine.specs.Ends.{no_store, no_flags}
use Rattle.machine.specs.Buffers.{Written, run_answer}
use Rattle.machine_locals.proofs.run_answers.written_answer.Goals as goal

answered : End × ℕ → RunAnswer
answered t = record { number = 0; place = 0; store = t.0.store; failed = t.0.failed; length = t.1 }

at_end : (t : End × ℕ) (check : Checked ℕ Written) → mapped {B = End × ℕ} (λ w. (w.ending, length w.bytes)) check ≡ passed t
    → answered t ≡ run_answer check
unfolding run_answer mapped answered
at_end t (refused number place) e = cc
at_end t (passed w) e = let h : (w.ending, length w.bytes) ≡ t = cc in ap answered (sym h)

at_refusal : (m p : ℕ) (check : Checked ℕ Written) → mapped {B = End × ℕ} (λ w. (w.ending, length w.bytes)) check ≡ refused m p
    → record { number = m; place = p; store = no_store; failed = no_flags; length = 0 } ≡ run_answer check
unfolding run_answer mapped
at_refusal m p (refused number place) e = cc
at_refusal m p (passed w) e = cc

pub returns-in-Ok : goal.returns-in-Ok
unfolding answered
returns-in-Ok c check e = at_end (c.in-Ok.end, c.in-Ok.length) check (rw c.in-Ok.is at e)

pub returns-in-Err : goal.returns-in-Err
unfolding no_store no_flags
returns-in-Err c check e = rw c.number.ensures (at_refusal _ _ check (rw c.in-Err.is at e))
