-- The iteration to the response time as its functions yield it: the utilisation that the tasks above need,
-- the lower bound that it starts from, the test whether an interval of some length is long enough, the array that
-- the tasks' times are lent in, and a response time as it is yielded.
-- Assumes nothing.
use Rattle.std.specs.Prelude.{◌≡◌, ℕ, ◌+◌, ◌-◌, ◌*◌, ◌^◌, ◌≤◌, ◌<◌, Bool, not, ◌&&◌, ◌||◌, List, [], ◌∷◌, leb, eqb, length, get_or, Option, Some, None}
use Rattle.std.proofs.Math.Option as Math
use Rattle.taskfile.specs.declared.Table.{Table}
use Rattle.taskfile.specs.declared.Task.{Task}
use Rattle.taskfile.specs.declared.TaskEntry.{TaskEntry}
use Rattle.taskfile.specs.Judgement.{numbered}
use Rattle.taskfile.specs.Code.JudgingParts.{Shaped}
use Rattle.taskfile.specs.Tables.{task_of}
use Rattle.timing.specs.declared.Timing.{Timing}
use Rattle.timing.specs.declared.Utilisation.{Utilisation}
use Rattle.timing.specs.Response.{rounded_up, tasks_above, interference, need, demand}
use Rattle.timing.specs.Code.BoundedTimes.{no_timing}

-- a table whose times can be worked out: its arrays are full, and each task has 1 ≤ C ≤ P
pub record Timeable (t : Table) : Type 0 where
  pub shaped : Shaped t
  pub positive : (i : Task) → i.0 < t.tasks → 1 ≤ (task_of t i).execution
  pub within : (i : Task) → i.0 < t.tasks → (task_of t i).execution ≤ (task_of t i).period

-- what task k of a table asks of the processor
unfoldable pub timing_at : Table → ℕ → Timing
timing_at t k = let e = task_of t (numbered k) in record { execution = e.execution; period = e.period }

-- an array of eight, of which the first n are what the first n tasks of a table ask, in 32 bits
pub record Timings (t : Table) (n : ℕ) (timings : List Timing) : Type 0 where
  pub full : length timings ≡ 8
  pub held : (k : ℕ) → k < n → get_or timings k no_timing ≡ timing_at t k
  pub narrow : (k : ℕ) → k < n
      → ((get_or timings k no_timing).execution < 2 ^ 32) × ((get_or timings k no_timing).period < 2 ^ 32)

-- the times of a table's tasks, in an array to be lent
pub record TimesOf (t : Table) (timings : List Timing) : Type 0 where
  pub timeable : Timeable t
  pub asked : Timings t t.tasks timings

-- what task i needs beside interference, as a number of 33 bits
pub record NeedOf (t : Table) (i : Task) (own : ℕ) : Type 0 where
  pub same : own ≡ need t i
  pub positive : 1 ≤ own
  pub narrow : own < 2 ^ 33

-- a task's response time, as a function yields it
unfoldable pub bound_of : Math.Option ℕ → Option ℕ
bound_of Math.none = None
bound_of (Math.some R) = Some R

-- a utilisation of less than the whole in at most cap parts, and a task that needs c of every p: their sum fits
pub record SumFits (s : Utilisation) (c p cap : ℕ) : Type 0 where
  pub positive : 1 ≤ c
  pub within : c ≤ p
  pub below : s.part < s.whole
  pub few : s.whole ≤ cap
  pub room : cap < 2 ^ 63

-- a utilisation r in at most cap parts that is no more than s and c of p together
pub record WithTask (s : Utilisation) (c p cap : ℕ) (r : Utilisation) : Type 0 where
  pub positive : 1 ≤ r.whole
  pub few : r.whole ≤ cap
  pub most : r.part * (s.whole * p) ≤ (s.part * p + c * s.whole) * r.whole

-- a utilisation in at most cap parts that the listed tasks need at least, in an interval of any length
pub record UtilisationOf (above : List TaskEntry) (cap : ℕ) (s : Utilisation) : Type 0 where
  pub positive : 1 ≤ s.whole
  pub few : s.whole ≤ cap
  pub needed : (R : ℕ) → R * s.part ≤ interference above R * s.whole

-- a positive number that no solution is below, and that the demand is not below
pub record LowerBound (t : Table) (i : Task) (r : ℕ) : Type 0 where
  pub positive : 1 ≤ r
  pub rises : r ≤ demand t i r
  pub below : (Q : ℕ) → 1 ≤ Q → Q ≡ demand t i Q → r ≤ Q

-- in some interval of length 1 to b, base and the listed tasks are done
pub record Fits (above : List TaskEntry) (base b : ℕ) : Type 0 where
  pub span : ℕ
  pub positive : 1 ≤ span
  pub within : span ≤ b
  pub enough : base + interference above span ≤ span

-- each listed task meets its own period where it waits for no lock, and those after it stand above it
abbrev pub AllFit : List TaskEntry → Type 0
AllFit [] = Unit {0}
AllFit (e ∷ above) = Fits above e.execution e.period × AllFit above

-- the test for `Fits` by Bini and Buttazzo's scheduling points: b itself, up to which ceil(b / P) windows of the first
-- task begin, and, where b is no multiple of P, the last multiple before b, up to which one window fewer begins
unfoldable pub fits_from : List TaskEntry → ℕ → ℕ → Bool
fits_from [] base b = leb base b
fits_from (e ∷ above) base b =
    let windows = rounded_up b e.period in
    leb base b
    && (fits_from above (base + windows * e.execution) b
    || not (eqb (windows * e.period) b)
    && fits_from above (base + (windows - 1) * e.execution) ((windows - 1) * e.period))

-- the test whether task i meets its period where it waits for no lock
unfoldable pub fits_alone : Table → Task → Bool
fits_alone t i = fits_from (tasks_above t i) (task_of t i).execution (task_of t i).period
