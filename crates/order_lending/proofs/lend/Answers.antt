-- `order_lending::lend` meets its contract: the filled arrays hold the table, the wait table is made from them, and the first
-- state shows where its orders start.
-- Assumes nothing.
use Rattle.order_lending.specs.Laws.LendLaws.{lent_of, locks_few}
use Rattle.order_lending.proofs.lend.Goals as goal

pub returns : goal.returns
returns c =
    lent_of _ c.program_of-program.ensures c.times_of-times.ensures c.locks_of-locks.ensures
    c.waits_of-waits.ensures c.first_state-start.ensures

pub invariant_of-result : goal.invariant_of-result
invariant_of-result c = record { few = locks_few c.args.listed.now.shaped c.locks_of-locks.ensures }
