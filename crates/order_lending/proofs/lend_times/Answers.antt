-- `order_lending::lend_times` meets its contract: the filled arrays hold the table and its jobs' times.
-- Assumes nothing.
use Rattle.order_lending.specs.Laws.LendLaws.{times_of, locks_few}
use Rattle.order_lending.proofs.lend_times.Goals as goal

pub returns : goal.returns
returns c =
    times_of _ c.program_of-program.ensures c.times_of-times.ensures c.locks_of-locks.ensures

pub invariant_of-result : goal.invariant_of-result
invariant_of-result c = record { few = locks_few c.args.listed.now.shaped c.locks_of-locks.ensures }
