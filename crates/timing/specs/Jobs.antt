-- The jobs of a table. Document 01, "Response times and jobs": "The jobs of task i arrive at A_i + k × P_i for each
-- k ≥ 0 with arrival < W. Jobs are numbered by task, then by arrival. A job's latest finish is arrival + response
-- time."
-- Assumes nothing.
use Rattle.std.specs.Prelude.{ℕ, ◌+◌, ◌-◌, ◌*◌, List, map, get_or}
use Rattle.taskfile.specs.declared.Table.{Table}
use Rattle.taskfile.specs.declared.Task.{Task}
use Rattle.taskfile.specs.declared.TaskEntry.{TaskEntry}
use Rattle.taskfile.specs.Judgement.{task_numbers}
use Rattle.notation.specs.Lists.{up_to, each, sum}
use Rattle.taskfile.specs.Tables.{tasks_of, task_of}
use Rattle.timing.specs.declared.JobRecord.{JobRecord}
use Rattle.timing.specs.Response.{rounded_up}

-- job k of a task arrives at A + k × P
unfoldable pub arrival_of : TaskEntry → ℕ → ℕ
arrival_of e k = e.arrival + k * e.period

-- how many k have arrival_of e k < W (`ResponseLaws.jobs_in_window` says so)
unfoldable pub jobs_within : ℕ → TaskEntry → ℕ
jobs_within window e = rounded_up (window - e.arrival) e.period

unfoldable pub job_count : Table → ℕ
job_count t = sum (map (jobs_within t.window) (tasks_of t))

-- job k of task i, whose response time is R
unfoldable pub job_of : Task → TaskEntry → ℕ → ℕ → JobRecord
job_of i e R k = record { task = i; arrival = arrival_of e k; latest = arrival_of e k + R }

-- the jobs of task i, by arrival
unfoldable pub jobs_of_task : Table → List ℕ → Task → List JobRecord
jobs_of_task t responses i =
    map (job_of i (task_of t i) (get_or responses i.0 0)) (up_to (jobs_within t.window (task_of t i)))

-- all jobs, by task, then by arrival: a job's number is its index here
unfoldable pub jobs_of : Table → List ℕ → List JobRecord
jobs_of t responses = each (task_numbers t) (jobs_of_task t responses)
