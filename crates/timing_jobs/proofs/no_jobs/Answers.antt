-- `timing_jobs::no_jobs` meets its contract: the empty list, filled up.
-- Assumes nothing.
use mathlib.Core.Path.{refl}
use Rattle.notation.specs.Lists.{padded}
use Rattle.timing.specs.Code.JobParts.{job_list_of}
use Rattle.timing_jobs.proofs.no_jobs.Goals as goal

pub returns : goal.returns
unfolding job_list_of padded
returns c = refl
