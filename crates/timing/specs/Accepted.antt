-- An accepted table, numbers 10 and 11. Document 01: "A table is accepted if its file earns no number."
-- "Then 6, 7, 8, 9, 10, 11, each over the whole table."
-- Assumes nothing.
use Rattle.std.specs.Prelude.{ℕ, List, [], ◌∷◌, leb}
use Rattle.taskfile.specs.declared.Site.{Site}
use Rattle.taskfile.specs.declared.Site.TheVariants.{AtHeader, AtTask}
use Rattle.taskfile.specs.declared.Table.{Table}
use Rattle.taskfile.specs.declared.Task.{Task}
use Rattle.notation.specs.Checked.{Checked, passed, require, given, placed_by, ◌>>=◌, ◌>>◌}
use Rattle.taskfile.specs.File.{load, record_at}
use Rattle.taskfile.specs.Judgement.{task_numbers}
use Rattle.taskfile.specs.Records.{File}
use Rattle.timing.specs.declared.JobRecord.{JobRecord}
use Rattle.timing.specs.Jobs.{job_count, jobs_of}
use Rattle.timing.specs.Response.{response_of}

-- "at most 32 jobs"
abbrev pub most_jobs : ℕ
most_jobs = 32

-- "10 OVERLOAD: no R ≤ P; the lowest such task's record."
unfoldable pub responses_of : Table → List Task → Checked Site (List ℕ)
responses_of t [] = passed []
responses_of t (i ∷ others) = do
  R ← given (response_of t i) 10 (AtTask i)
  Rs ← responses_of t others
  passed (R ∷ Rs)

-- a table that is accepted, with its response times and its jobs
pub record Accepted : Type 0 where
  pub table : Table
  pub responses : List ℕ
  pub jobs : List JobRecord

-- 10, then "11 JOBS: more than 32; place 0."
unfoldable pub timed : Table → Checked Site Accepted
timed t = do
  responses ← responses_of t (task_numbers t)
  require (leb (job_count t) most_jobs) 11 AtHeader
  passed (record { table = t; responses = responses; jobs = jobs_of t responses })

-- what every entry does first: the file's table, or the first number that the file earns
unfoldable pub accept : File → Checked ℕ Accepted
accept f = do
  loaded ← load f
  placed_by (record_at loaded.chains) (timed loaded.table)
