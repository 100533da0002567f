-- Laws of the array that the times of a table's tasks are lent in: how it is filled, and what is read from it.
-- Assumes nothing.
use Rattle.std.specs.Prelude.{◌≡◌, refl, ℕ, ◌+◌, ◌*◌, ◌^◌, ◌≤◌, ◌<◌, List, get_or, drop, set, replicate}
use Rattle.std.proofs.Common.{ap, ◌∙◌, mul-le-mul_left, arith, length-set, get_or-set_same, get_or-set_other}
use Rattle.std.proofs.Math.Decide.{ℕ_discrete}
use Rattle.taskfile.specs.declared.Table.{Table}
use Rattle.taskfile.specs.declared.Task.{Task}
use Rattle.taskfile.specs.declared.TaskEntry.{TaskEntry}
use Rattle.taskfile.specs.Judgement.{numbered}
use Rattle.taskfile.specs.Tables.{tasks_of}
use Rattle.timing.specs.Blocking.{blocking}
use Rattle.timing.specs.declared.Timing.{Timing}
use Rattle.timing.specs.Response.{rounded_up, interference, need}
use Rattle.timing.proofs.Laws.ResponseLaws.{rounded_up_tight}
use Rattle.timing.specs.Code.ResponseParts.{Timeable, timing_at, Timings, TimesOf, NeedOf}
use Rattle.timing.specs.Code.BoundedTimes.{no_timing, BoundedTimes}
use Rattle.timing.proofs.Laws.TimeableLaws.{TimesRead, task_read, interference_next, interference_end}

-- ---- the array is filled

pub timings_none : (t : Table) → Timings t 0 (replicate 8 no_timing)
timings_none t = record { full = refl; held = λ k lt. absurd (omega arith); narrow = λ k lt. absurd (omega arith) }

pub timings_more : {t : Table} {n : ℕ} {xs : List Timing} → Timings t n xs → n < 8 → {x : Timing} → x ≡ timing_at t n
    → x.execution < 2 ^ 32 → x.period < 2 ^ 32 → Timings t (n + 1) (set xs n x)
timings_more {t} {n} {xs} timings few {x} e short small =
    let here : get_or (set xs n x) n no_timing ≡ x = get_or-set_same xs n x no_timing (omega (arith, timings.full)) in
    record {
      full = length-set xs n x ∙ timings.full;
      held = λ k lt.
          elim (ℕ_discrete k n) [
            | yes same ↦ rw same (here ∙ e)
            | no other ↦ get_or-set_other xs n k x no_timing other ∙ timings.held k (omega arith)
          ];
      narrow = λ k lt.
          elim (ℕ_discrete k n) [
            | yes same ↦ rw (same, here) (short, small)
            | no other ↦ rw (get_or-set_other xs n k x no_timing other) (timings.narrow k (omega arith))
          ];
    }

-- after the last task all are stored
pub timings_all : {t : Table} {n m : ℕ} {xs : List Timing} → Timings t n xs → m ≤ n → Timings t m xs
timings_all timings le =
    record { full = timings.full; held = λ k lt. timings.held k (omega arith); narrow = λ k lt. timings.narrow k (omega arith) }

-- what is stored, as read from the table's array of tasks
pub timing_stored : {t : Table} → Timeable t → (k : ℕ) (d : TaskEntry) → k < t.tasks → {x : Timing}
    → x.execution ≡ (get_or t.entries k d).execution → x.period ≡ (get_or t.entries k d).period → x ≡ timing_at t k
unfolding timing_at
timing_stored timeable k d lt {x} e f =
    let read = task_read timeable.shaped k d lt in
    let execution = e ∙ ap (λ (a : TaskEntry). a.execution) read in
    let period = f ∙ ap (λ (a : TaskEntry). a.period) read in
    λ j. record { execution = execution j; period = period j }

pub times_filled : {t : Table} → Timeable t → {xs : List Timing} → Timings t t.tasks xs → TimesOf t xs
times_filled timeable asked = record { timeable = timeable; asked = asked }

-- ---- what is read

module _ {t : Table} {xs : List Timing} (times : TimesOf t xs) where
  -- the times of task i
  pub lent_read : (i : Task) → i.0 < t.tasks → TimesRead t i (get_or xs i.0 no_timing).execution (get_or xs i.0 no_timing).period
  unfolding timing_at
  lent_read i lt =
      let held = times.asked.held i.0 lt in
      let execution = ap (λ (x : Timing). x.execution) held in
      let period = ap (λ (x : Timing). x.period) held in
      record {
        execution = execution;
        period = period;
        positive = omega (arith, execution, times.timeable.positive i lt);
        within = omega (arith, execution, period, times.timeable.within i lt);
      }

  -- what task i needs: its execution time, and how long it may wait for a lower task's lock
  pub lent_need : (i : Task) → i.0 < t.tasks → {B : ℕ} → B ≡ blocking t i → B < 2 ^ 32
      → NeedOf t i ((get_or xs i.0 no_timing).execution + B)
  unfolding need
  lent_need i lt wait narrow =
      let read = lent_read i lt in
      record {
        same = rw (read.execution, wait);
        positive = omega (arith, read.positive);
        narrow = omega (arith, read.within, times.asked.narrow i.0 lt);
      }

  pub lent_times : BoundedTimes xs t.tasks
  lent_times = record {
    few = omega (arith, times.timeable.shaped.tasks_within);
    positive = λ k lt. (lent_read (numbered k) lt).positive;
    within = λ k lt. (lent_read (numbered k) lt).within;
    narrow = λ k lt. (times.asked.narrow k lt).1;
  }

  -- the interference from task k on: what task k adds, and that from the next task on
  pub lent_step_lem : (k r : ℕ) {u : ℕ} → k < t.tasks → u ≡ rounded_up r (get_or xs k no_timing).period
      → interference (drop k (tasks_of t)) r ≡ u * (get_or xs k no_timing).execution + interference (drop (k + 1) (tasks_of t)) r
  lent_step_lem k r lt e = rw e (interference_next times.timeable k r lt (lent_read (numbered k) lt))

  pub lent_end : (k r : ℕ) → t.tasks ≤ k → interference (drop k (tasks_of t)) r ≡ 0
  lent_end k r le = interference_end times.timeable k r le

-- what a task adds to the interference fits
pub lent_fits : {xs : List Timing} {n : ℕ} → BoundedTimes xs n → (k r : ℕ) {u : ℕ} → k < n → r < 2 ^ 32
    → u ≡ rounded_up r (get_or xs k no_timing).period → u * (get_or xs k no_timing).execution < 2 ^ 33
lent_fits {xs} times k r {u} lt small e =
    let within = times.within k lt in
    let positive = times.positive k lt in
    let tight = rw (← e) at (rounded_up_tight r (get_or xs k no_timing).period (omega arith)) in
    omega (arith, times.narrow k lt, mul-le-mul_left u within, tight)
