-- What is kept of the tasks' quotients from one interval to a longer one.
-- Assumes nothing.
use Rattle.std.specs.Prelude.{◌≡◌, ℕ, ◌*◌, ◌≤◌, ◌<◌, List, length, get_or}
use Rattle.timing.specs.declared.TaskTimes.{TaskTimes}
use Rattle.timing.specs.declared.Timing.{Timing}
use Rattle.timing.specs.Response.{rounded_up}
use Rattle.timing.specs.Code.BoundedTimes.{no_timing}
use Rattle.timing_iteration.specs.declared.quotients.Quotient.{Quotient}

-- what is kept where there is no task
abbrev pub no_quotient : Quotient
no_quotient = record { end = 0; busy = 0 }

-- where some periods of a task end and how long it is busy in them: no more periods than begin in an interval of
-- length r
pub record KeptPeriods (asked : Timing) (r : ℕ) (q : Quotient) : Type 0 where
  pub periods : ℕ
  pub most : periods ≤ rounded_up r asked.period
  pub ends : q.end ≡ periods * asked.period
  pub busy : q.busy ≡ periods * asked.execution

-- those of the first n tasks, in an array of eight
pub record Kept (timings : List Timing) (n r : ℕ) (quotients : List Quotient) : Type 0 where
  pub full : length quotients ≡ 8
  pub held : (k : ℕ) → k < n → KeptPeriods (get_or timings k no_timing) r (get_or quotients k no_quotient)

-- those of the tasks whose times are lent
abbrev pub QuotientsKept : TaskTimes → ℕ → List Quotient → Type 0
QuotientsKept times r kept = Kept times.timings times.table.now.tasks r kept
