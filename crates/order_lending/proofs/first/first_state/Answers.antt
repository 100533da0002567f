-- `order_lending::first::first_state` meets its contract: each first job is what `first_unended` ensures for its task, and
-- the bytes are written over zeros.
-- Assumes nothing.
use Rattle.std.proofs.Common.{arith}
use Rattle.order_lending.specs.Laws.StartBytes.{firsts_listed, start_shown, start_whole}
use Rattle.order_lending.proofs.first.first_state.Goals as goal

pub returns : goal.returns
returns c =
    let firsts = firsts_listed _ c.loop-k.invariant.0 (λ j lt. c.loop-k.invariant.1 j (omega arith)) in
    start_shown _ _ (omega arith) c.put_eight.ensures c.put_eight-2.ensures firsts

pub invariant_of-result : goal.invariant_of-result
invariant_of-result c =
    let firsts = firsts_listed _ c.loop-k.invariant.0 (λ j lt. c.loop-k.invariant.1 j (omega arith)) in
    record { whole = start_whole _ _ (omega arith) c.put_eight.ensures c.put_eight-2.ensures firsts }
