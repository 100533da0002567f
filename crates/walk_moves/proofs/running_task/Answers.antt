-- `walk_moves::running_task` meets its contract: no job is active, or the last one's number is none's, or its task is read.
-- Assumes nothing.
use Rattle.walk_moves.specs.Laws.RunningLaws.{running_flat, running_no_job, running_read}
use Rattle.walk_moves.proofs.running_task.Goals as goal

pub returns-then-depth-eq0 : goal.returns-then-depth-eq0
returns-then-depth-eq0 c = running_flat _ _ c.if-depth-eq0.true

pub returns-then-x-ge-MOST_JOBS : goal.returns-then-x-ge-MOST_JOBS
returns-then-x-ge-MOST_JOBS c =
    running_no_job _ _ c.args.s.now.whole c.if-depth-eq0.false c.if-x-ge-MOST_JOBS.true

pub returns : goal.returns
returns c =
    running_read _ _ c.args.s.now.whole c.if-depth-eq0.false c.if-x-ge-MOST_JOBS.false
