-- `order_turns::precedence::level` meets its contract: each return is one case of the definition.
-- Assumes nothing.
use native.Mathlib.Omega.{arith}
use Rattle.order_states.proofs.Laws.StateReads.{level_flat_read, level_no_job, level_high, level_bar}
use Rattle.order_turns.proofs.precedence.level.Goals as goal

pub returns-then-depth-eq0 : goal.returns-then-depth-eq0
returns-then-depth-eq0 c = level_flat_read _ _ _ c.if-depth-eq0.true

pub returns-then-x-ge-MOST_JOBS : goal.returns-then-x-ge-MOST_JOBS
returns-then-x-ge-MOST_JOBS c =
    level_no_job _ _ _ c.args.s.now.whole c.if-depth-eq0.false c.if-x-ge-MOST_JOBS.true

pub returns-then-priority-ge-MOST_TASKS : goal.returns-then-priority-ge-MOST_TASKS
returns-then-priority-ge-MOST_TASKS c =
    level_high _ _ _ c.args.s.now.whole c.if-depth-eq0.false c.if-x-ge-MOST_JOBS.false c.bytes_at-held.ensures
    c.priority_of-priority.ensures c.if-priority-ge-MOST_TASKS.true

pub returns : goal.returns
returns c =
    level_bar _ _ _ c.args.s.now.whole c.if-depth-eq0.false c.if-x-ge-MOST_JOBS.false c.bytes_at-held.ensures
    c.priority_of-priority.ensures (omega (arith, c.if-priority-ge-MOST_TASKS.false))
