-- The lent list with the first records of a list of jobs stored, one after the other.
-- Assumes nothing.
use Rattle.std.specs.Prelude.{ℕ, zero, suc, List, get_or, set}
use Rattle.timing.specs.declared.JobList.{JobList}
use Rattle.timing.specs.declared.JobRecord.{JobRecord}
use Rattle.timing.specs.Relations.{no_job}

-- the record at a place
abbrev pub job_record_of : JobList → ℕ → JobRecord
job_record_of from i = get_or from.jobs i no_job

-- the list with the first n records stored
unfoldable pub list_filled : JobList → ℕ → List JobRecord → List JobRecord
list_filled from zero list = list
list_filled from (suc n) list = set (list_filled from n list) n (job_record_of from n)
