-- The job list by value, as its functions yield it.
-- Assumes nothing.
use Rattle.std.specs.Prelude.{ℕ, ◌≤◌, ◌<◌, List, length, get_or}
use Rattle.taskfile.specs.declared.Table.{Table}
use Rattle.notation.specs.Lists.{padded}
use Rattle.taskfile.specs.Tables.{task_of}
use Rattle.taskfile.specs.Judgement.{numbered}
use Rattle.timing.specs.declared.JobList.{JobList}
use Rattle.timing.specs.declared.JobRecord.{JobRecord}
use Rattle.timing.specs.Accepted.{most_jobs}
use Rattle.timing.specs.Relations.{no_job}

-- a list of jobs in an array of 32
unfoldable pub job_list_of : List JobRecord → JobList
job_list_of jobs = record { count = length jobs; jobs = padded most_jobs no_job jobs }

-- each task's response time is at most its period
abbrev pub WithinPeriods : Table → List ℕ → Type 0
WithinPeriods t times = (i : ℕ) → i < t.tasks → get_or times i 0 ≤ (task_of t (numbered i)).period
