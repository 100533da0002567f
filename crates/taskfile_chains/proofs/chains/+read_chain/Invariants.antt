-- The measure of `taskfile_chains::chains::read_chain` is the number of records still allowed, which is not 0 where an
-- index may be followed.
use Rattle.taskfile_chains.proofs.chains.+read_chain.Given as goal

abbrev pub decreases-read_chain : goal.decreases-read_chain
decreases-read_chain l = l.allowed
