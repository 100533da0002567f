-- `order_turns::precedence::must_wait` meets its contract. The loop's invariant: y must wait if it must for a task below k or from k
-- on.
-- Assumes nothing.
use Prim.Native.Nat.{ℕ, ◌*◌}
use mathlib.Core.Path.{◌≡◌}
use Rattle.order_states.proofs.Laws.StartLaws.{WaitKept}
use Rattle.order_states.specs.Code.StateBytes.{snapshot_in}
use Rattle.order_turns.proofs.precedence.must_wait.Given as goal

abbrev pub invariant-loop-k : goal.invariant-loop-k
invariant-loop-k l =
    (y : ℕ) → l.row ≡ 8 * y → WaitKept l.waits (snapshot_in l.s).unended y l.k l.waiting
