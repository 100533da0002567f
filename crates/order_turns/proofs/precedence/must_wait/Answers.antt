-- What `order_turns::precedence::must_wait` owes and the search does not find.
use Prim.Native.Nat.{◌+◌}
use mathlib.Core.Path.{refl, sym, subst}
use Rattle.order_states.proofs.Laws.StartLaws.{WaitKept, wait_starts, wait_found, wait_later, wait_done}
use Rattle.order_states.proofs.Laws.StateReads.{waits_below, waits_past}
use Rattle.order_turns.proofs.precedence.must_wait.Goals as goal
use Rattle.order_turns.proofs.precedence.must_wait.Goals.{then-s-k, else-s-k}

pub loop-k-init : goal.loop-k-init
loop-k-init c y same = wait_starts _ _ y

pub loop-k-preserved : goal.loop-k-preserved
loop-k-preserved c y same =
    let lt = c.loop-k-test.true in
    elim c.if-s-k.branch [
      | then-s-k t ↦
          subst (WaitKept _ _ y (c.loop-k.k + 1)) (sym t.waiting-is)
          (wait_found _ _ y _ c.loop-k.waiting (c.loop-k.invariant y same) lt (waits_below _ _ _ y _ same lt t.if-s-k.true))
      | else-s-k t ↦
          subst (WaitKept _ _ y (c.loop-k.k + 1)) (sym t.waiting-is)
          (wait_later _ _ y _ c.loop-k.waiting (c.loop-k.invariant y same) lt (waits_past _ _ _ y _ same lt t.if-s-k.false))
    ]

pub returns : goal.returns
returns c = wait_done _ _ _ _ _ (c.loop-k.invariant _ refl) c.loop-k-test.false
