-- What `order_lending::first::first_unended` owes and the search does not find.
use Rattle.std.proofs.Common.{◌≡◌, ◌∙◌, arith}
use Rattle.order_states.proofs.Laws.ReplayLoopLaws.{first_found, first_later, first_missing}
use Rattle.order_states.specs.Code.SnapshotSteps.{owner_in}
use Rattle.order_lending.proofs.first.first_unended.Goals as goal

pub returns-then-i-program : goal.returns-then-i-program
unfolding owner_in
returns-then-i-program c = first_found _ _ _ c.loop-x.invariant c.loop-x-test.true c.if-i-program.true

pub loop-x-preserved : goal.loop-x-preserved
unfolding owner_in
loop-x-preserved c = first_later _ _ _ c.loop-x.invariant c.loop-x-test.true c.if-i-program.false

pub returns : goal.returns
returns c =
    let last : 32 ≡ c.loop-x.x = omega arith in
    last ∙ first_missing _ _ _ c.loop-x.invariant c.loop-x-test.false
