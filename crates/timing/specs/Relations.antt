-- Which job comes before which, and which may preempt which. Document 01, "Response times and jobs".
-- A job goes by its number; its base priority is its task's number.
-- Assumes nothing.
use Rattle.std.specs.Prelude.{ℕ, ◌<◌, Bool, not, ◌&&◌, ◌||◌, List, map, length, get_or, leb, ltb, eqb}
use Rattle.notation.specs.Lists.{up_to}
use Rattle.timing.specs.declared.Job.{Job}
use Rattle.timing.specs.declared.JobRecord.{JobRecord}
use Rattle.timing.specs.Accepted.{Accepted}

-- what stands for the record of a job that is not there
abbrev pub no_job : JobRecord
no_job = record { task = record { 0 = 0 }; arrival = 0; latest = 0 }

unfoldable pub job_at : Accepted → Job → JobRecord
job_at a x = get_or a.jobs x.0 no_job

unfoldable pub job_numbers : Accepted → List Job
job_numbers a = map (λ n. record { 0 = n }) (up_to (length a.jobs))

-- "A task's number is its base priority"
unfoldable pub base : Accepted → Job → ℕ
base a x = (job_at a x).task.0

-- "X comes before Y if X's latest finish ≤ Y's arrival, or X arrives no later than Y and X's base priority is at
-- least Y's (X and Y distinct)."
unfoldable pub before : Accepted → Job → Job → Bool
before a x y =
    not (eqb x.0 y.0)
    && (leb (job_at a x).latest (job_at a y).arrival
    || leb (job_at a x).arrival (job_at a y).arrival && leb (base a y) (base a x))

-- "Y may preempt X if Y's base is higher and X's arrival < Y's arrival < X's latest finish."
unfoldable pub may_preempt : Accepted → Job → Job → Bool
may_preempt a y x =
    ltb (base a x) (base a y)
    && ltb (job_at a x).arrival (job_at a y).arrival
    && ltb (job_at a y).arrival (job_at a x).latest

-- a number that is one of the table's jobs
abbrev pub IsJob : Accepted → Job → Type 0
IsJob a x = x.0 < length a.jobs
