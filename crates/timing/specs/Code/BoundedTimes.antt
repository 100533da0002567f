-- What the array that the tasks' times are lent in holds.
-- Assumes nothing.
use Rattle.std.specs.Prelude.{ℕ, ◌^◌, ◌≤◌, ◌<◌, List, get_or}
use Rattle.timing.specs.declared.Timing.{Timing}

-- what stands in the array where there is no task
abbrev pub no_timing : Timing
no_timing = record { execution = 0; period = 0 }

-- execution times and periods of n tasks with 1 ≤ C ≤ P, in 32 bits
pub record BoundedTimes (timings : List Timing) (n : ℕ) : Type 0 where
  pub few : n ≤ 8
  pub positive : (k : ℕ) → k < n → 1 ≤ (get_or timings k no_timing).execution
  pub within : (k : ℕ) → k < n → (get_or timings k no_timing).execution ≤ (get_or timings k no_timing).period
  pub narrow : (k : ℕ) → k < n → (get_or timings k no_timing).period < 2 ^ 32
