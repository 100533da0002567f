-- Which plans are legal, numbers 43 to 45. Document 01, "Round plans": "Start and end of a job are the rounds of its
-- first and last step. The plan is legal if none of 40 to 42 applies and: X before Y: end X < start Y. Y may preempt
-- X: either end X < start Y, or end Y < start X, or start X ≤ start Y and end Y < end X. In the third case X has no
-- step in rounds start Y + 1 to end Y, and after X's steps up to round start Y its priority is below Y's base. Guess
-- 0 is the initial store, and the store left in round r is guess r + 1."
-- Assumes nothing.
use Rattle.std.specs.Prelude.{ℕ, Bool, not, ◌&&◌, ◌||◌, List, [], ◌∷◌, map, get_or, ltb}
use Rattle.notation.specs.Checked.{Checked, none_of, placed_by, ◌>>◌}
use Rattle.notation.specs.Lists.{all, only, each, same, first_or, last_or}
use Rattle.timing.specs.declared.Job.{Job}
use Rattle.timing.specs.Accepted.{Accepted}
use Rattle.timing.specs.Relations.{base, before, may_preempt, job_numbers}
use Rattle.machine.specs.Ends.{no_store}
use Rattle.machine.specs.Instructions.{Store}
use Rattle.plan.specs.declared.Round.{Round}
use Rattle.plan.specs.Runs.{Plan, Step, JobRuns, round_numbers, first_round, earlier, not_later, guess}

unfoldable pub steps_of : JobRuns → Job → List Step
steps_of runs x = get_or runs.steps x.0 []

-- the rounds of a job's steps
unfoldable pub rounds_of : JobRuns → Job → List Round
rounds_of runs x = map (λ step. step.round) (steps_of runs x)

-- "Start and end of a job are the rounds of its first and last step."
unfoldable pub start : JobRuns → Job → Round
start runs x = first_or first_round (rounds_of runs x)

unfoldable pub end : JobRuns → Job → Round
end runs x = last_or first_round (rounds_of runs x)

-- "X before Y: end X < start Y."
unfoldable pub before_rule : Accepted → JobRuns → Job → Job → Bool
before_rule a runs x y = not (before a x y) || earlier (end runs x) (start runs y)

-- "either end X < start Y, or end Y < start X"
unfoldable pub apart : JobRuns → Job → Job → Bool
apart runs x y = earlier (end runs x) (start runs y) || earlier (end runs y) (start runs x)

-- "or start X ≤ start Y and end Y < end X": Y is nested in X
unfoldable pub nested : JobRuns → Job → Job → Bool
nested runs y x = not_later (start runs x) (start runs y) && earlier (end runs y) (end runs x)

-- "X has no step in rounds start Y + 1 to end Y"
unfoldable pub no_step_within : JobRuns → Job → Job → Bool
no_step_within runs x y = all (λ r. not (earlier (start runs y) r && not_later r (end runs y))) (rounds_of runs x)

-- "Y may preempt X: ..", the locks aside
unfoldable pub preempt_rule : Accepted → JobRuns → Job → Job → Bool
preempt_rule a runs y x = not (may_preempt a y x) || apart runs x y || nested runs y x && no_step_within runs x y

-- X's priority after its steps up to round r
unfoldable pub priority_at : Accepted → JobRuns → Job → Round → ℕ
priority_at a runs x r =
    last_or (base a x) (map (λ step. step.priority_after) (only (λ step. not_later step.round r) (steps_of runs x)))

-- "after X's steps up to round start Y its priority is below Y's base", where Y is nested in X
unfoldable pub lock_rule : Accepted → JobRuns → Job → Job → Bool
lock_rule a runs y x =
    not (may_preempt a y x && nested runs y x) || ltb (priority_at a runs x (start runs y)) (base a y)

-- two jobs, by number
pub record Pair : Type 0 where
  pub lower : Job
  pub higher : Job

-- "first pair by lower, then higher job number"
unfoldable pub pairs : Accepted → List Pair
pairs a =
    each (job_numbers a)
    (λ x. map (λ y. record { lower = x; higher = y }) (only (λ y. ltb x.0 y.0) (job_numbers a)))

unfoldable pub order_fault : Accepted → JobRuns → Pair → Bool
order_fault a runs p =
    not (before_rule a runs p.lower p.higher && before_rule a runs p.higher p.lower
    && preempt_rule a runs p.higher p.lower && preempt_rule a runs p.lower p.higher)

unfoldable pub lock_fault : Accepted → JobRuns → Pair → Bool
lock_fault a runs p = not (lock_rule a runs p.higher p.lower && lock_rule a runs p.lower p.higher)

-- the store that round r must start from: the initial store, then the store left in the round before
unfoldable pub due_store : Accepted → JobRuns → Round → Store
due_store a runs r = get_or (a.table.store ∷ runs.running.stores) r.0 no_store

-- "Guess 0 is the initial store, and the store left in round r is guess r + 1."
unfoldable pub guess_fault : Accepted → Plan → JobRuns → Round → Bool
guess_fault a plan runs r = not (same (guess plan r) (due_store a runs r))

-- "43 ORDER: a pair breaks the round rules, locks aside; the lower job number. 44 LOCK: the priority clause of a
-- nested pair fails; the lower job number. 45 GUESS: lowest round whose guess is wrong."
unfoldable pub legality : Accepted → Plan → JobRuns → Checked ℕ (Unit {0})
legality a plan runs = do
  placed_by (λ p. p.lower.0) (none_of 43 (order_fault a runs) (pairs a))
  placed_by (λ p. p.lower.0) (none_of 44 (lock_fault a runs) (pairs a))
  placed_by (λ r. r.0) (none_of 45 (guess_fault a plan runs) (round_numbers a))
