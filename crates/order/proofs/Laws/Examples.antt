-- Computed examples of orders: complete orders with their ends, each of 30 to 34 with its place, and an order's steps.
-- Assumes nothing.
use Rattle.std.specs.Prelude.{◌≡◌, refl, ℕ, List, [], ◌∷◌, ◌++◌, map, take, replicate}
use Rattle.notation.specs.Checked.{Checked, refused, passed}
use Rattle.notation.specs.Lists.{only}
use Rattle.machine.specs.Ends.{Flags, no_flags, no_store}
use Rattle.machine.specs.declared.End.{End}
use Rattle.machine.specs.Instructions.{Store}
use Rattle.examples.specs.Laws.Opened.{opened}
use Rattle.examples.specs.Laws.Samples.{nest, pair, idle, twice, sensor, samples_opened, two_set, first_failed}
use Rattle.order.proofs.Laws.Opened.{orders_opened}
use Rattle.order.specs.OrderSteps.{order_steps, steps_made, is_end, ended_count}
use Rattle.order.specs.Replay.{replay}

-- ---- what the examples say, in short words

-- of the table `nest`: job 0 acquires and releases its lock; job 1 starts, and in it job 2, which picks 2; both end,
-- then job 0
abbrev nested : List ℕ
nested = 0 ∷ 0 ∷ 16 ∷ 34 ∷ 32 ∷ 32 ∷ 16 ∷ 16 ∷ 0 ∷ 0 ∷ 0 ∷ []

-- of the table `twice`: job 1 starts after so many steps of job 0, which has seven
abbrev starts_after : ℕ → ℕ → List ℕ
starts_after made left = replicate made 0 ++ (16 ∷ replicate left 0)

abbrev ends_with : Store → Flags → Checked ℕ End
ends_with store failed = passed (record { store = store; failed = failed })

-- ---- the examples

pub record OrderExamples : Type 0 where
  pub complete : replay nest nested ≡ ends_with (two_set 1 2) no_flags
  -- job 2 starts while job 0 holds a lock whose ceiling is below job 2's base; job 0 then fails its assertion
  pub complete_under_lock : replay nest (0 ∷ 34 ∷ 32 ∷ 32 ∷ 0 ∷ 0 ∷ 0 ∷ 0 ∷ 16 ∷ 16 ∷ 16 ∷ [])
      ≡ ends_with (two_set 1 2) first_failed
  -- job 1 comes before job 0
  pub complete_before : replay pair (16 ∷ 0 ∷ []) ≡ ends_with no_store no_flags
  pub complete_idle : replay idle [] ≡ ends_with (two_set 5 0) no_flags
  -- "30 for a job with no turn": job 0 has to wait for job 1
  pub step_waits : replay pair (0 ∷ 16 ∷ []) ≡ refused 30 0
  -- job 1's base is the ceiling of the lock that job 0 holds
  pub step_ceiling : replay nest (0 ∷ 16 ∷ []) ≡ refused 30 1
  -- job 0 is active, and job 1 was started last
  pub step_under : replay nest (0 ∷ 0 ∷ 16 ∷ 0 ∷ []) ≡ refused 30 3
  -- a job that has ended does not start again: its task is in the table, and has no job left
  pub step_ended : replay nest (32 ∷ 32 ∷ 32 ∷ 32 ∷ []) ≡ refused 30 3
  -- "33 for a task number outside the table": there is no task 3, and no table has one above 7
  pub task_none : replay nest (48 ∷ []) ≡ refused 33 0
  pub task_highest : replay nest (0 ∷ 255 ∷ []) ≡ refused 33 1
  -- "34 for a value": the Pick offers 0 to 3, an Acquire 0 alone
  pub value_picked : replay nest (0 ∷ 0 ∷ 36 ∷ []) ≡ refused 34 2
  pub value_acquire : replay nest (1 ∷ []) ≡ refused 34 0
  -- document 02, E7: a Pick of 3 to 6
  pub value_below : replay sensor (2 ∷ 0 ∷ 0 ∷ 0 ∷ []) ≡ refused 34 0
  pub value_lowest : replay sensor (3 ∷ 0 ∷ 0 ∷ 0 ∷ []) ≡ ends_with no_store no_flags
  pub value_highest : replay sensor (6 ∷ 0 ∷ 0 ∷ 0 ∷ 0 ∷ []) ≡ ends_with no_store first_failed
  pub value_above : replay sensor (7 ∷ 0 ∷ 0 ∷ 0 ∷ 0 ∷ []) ≡ refused 34 0
  -- 33 before 30, and 30 before 34: no task 3 has a turn, and job 0 under job 1 has none, whatever the value
  pub task_before_turn : replay nest (0 ∷ 0 ∷ 16 ∷ 63 ∷ []) ≡ refused 33 3
  pub turn_before_value : replay nest (0 ∷ 0 ∷ 16 ∷ 15 ∷ []) ≡ refused 30 3
  -- "31 SHORT: bytes end with jobs unfinished; place is the length."
  pub short_empty : replay nest [] ≡ refused 31 0
  pub short_last : replay nest (take 10 nested) ≡ refused 31 10
  -- "32 EXTRA: bytes remain after all jobs ended", checked before the others
  pub extra : replay nest (nested ++ (0 ∷ [])) ≡ refused 32 11
  pub extra_idle : replay idle (255 ∷ []) ≡ refused 32 0
  -- Document 02, E3: a Release at zero changes nothing; a lock taken twice and released once is held, and released
  -- twice it is free; the next Acquire holds it anew; End clears the count that is left.
  pub released_at_zero : replay twice (starts_after 1 6) ≡ ends_with no_store no_flags
  pub released_once : replay twice (starts_after 4 3) ≡ refused 30 4
  pub released_twice : replay twice (starts_after 5 2) ≡ ends_with no_store no_flags
  pub held_anew : replay twice (starts_after 6 1) ≡ refused 30 6
  pub cleared_by_end : replay twice (starts_after 7 0) ≡ ends_with no_store no_flags
  -- the jobs and values of an order's steps, and how many jobs have ended before each; the Ends among them
  pub step_jobs : map (λ step. step.job.0) (order_steps nest nested) ≡ 0 ∷ 0 ∷ 1 ∷ 2 ∷ 2 ∷ 2 ∷ 1 ∷ 1 ∷ 0 ∷ 0 ∷ 0 ∷ []
  pub step_values : map (λ step. step.value) (order_steps nest nested) ≡ 0 ∷ 0 ∷ 0 ∷ 2 ∷ replicate 7 0
  pub ended_before : map (λ step. ended_count nest step.before) (order_steps nest nested)
      ≡ 0 ∷ 0 ∷ 0 ∷ 0 ∷ 0 ∷ 0 ∷ 1 ∷ 1 ∷ 2 ∷ 2 ∷ 2 ∷ []
  pub step_ends : map (λ step. step.job.0) (only is_end (order_steps nest nested)) ≡ 2 ∷ 1 ∷ 0 ∷ []
  pub step_count : steps_made nest nested (record { 0 = 0 }) ≡ 5

pub order_examples : OrderExamples
unfolding opened samples_opened orders_opened
order_examples =
    record {
      complete = refl;
      complete_under_lock = refl;
      complete_before = refl;
      complete_idle = refl;
      step_waits = refl;
      step_ceiling = refl;
      step_under = refl;
      step_ended = refl;
      task_none = refl;
      task_highest = refl;
      value_picked = refl;
      value_acquire = refl;
      value_below = refl;
      value_lowest = refl;
      value_highest = refl;
      value_above = refl;
      task_before_turn = refl;
      turn_before_value = refl;
      short_empty = refl;
      short_last = refl;
      extra = refl;
      extra_idle = refl;
      released_at_zero = refl;
      released_once = refl;
      released_twice = refl;
      held_anew = refl;
      cleared_by_end = refl;
      step_jobs = refl;
      step_values = refl;
      ended_before = refl;
      step_ends = refl;
      step_count = refl;
    }
