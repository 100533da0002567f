-- The measure of `taskfile_chains::chains::read_tasks` is the number of tasks still allowed, which is not 0 where an
-- index may be followed.
use Rattle.taskfile_chains.proofs.chains.+read_tasks.Given as goal

abbrev pub decreases-read_tasks : goal.decreases-read_tasks
decreases-read_tasks l = l.allowed
