-- Laws of the iteration to the response time: where it starts, that each step keeps a lower bound of the solutions, and
-- where it ends. The start rests on R × part ≤ I × whole, for a utilisation that the tasks above need and I their
-- interference in an interval of length R.
-- Assumes nothing.
use Rattle.std.specs.Prelude.{◌≡◌, ℕ, ◌+◌, ◌-◌, ◌*◌, ◌≤◌, ◌<◌}
use Rattle.std.proofs.Common.{sym, ap, le_trans, mul-le-mul_left, lt_of_mul-lt-mul_right, arith}
use Rattle.std.proofs.Math.Nat.{one-le-mul, mul-sub}
use Rattle.std.proofs.Math.Option.{none, some}
use Rattle.taskfile.specs.declared.Table.{Table}
use Rattle.taskfile.specs.declared.Task.{Task}
use Rattle.taskfile.specs.Tables.{task_of}
use Rattle.timing.specs.declared.Utilisation.{Utilisation}
use Rattle.timing.specs.Response.{rounded_up, tasks_above, need, demand, response_of}
use Rattle.timing.proofs.Laws.ResponseLaws.{rounded_up_below, rounded_up_positive, demand_mono, response_found, response_none}
use Rattle.timing.specs.Code.ResponseParts.{UtilisationOf, LowerBound}

-- ---- the start

module _ (t : Table) (i : Task) (positive : 1 ≤ need t i) {cap : ℕ} {s : Utilisation} (share : UtilisationOf (tasks_above t i) cap s) where
  -- the demand covers the task's own need and the utilisation of those above
  demand_covers : (R : ℕ) → need t i * s.whole + R * s.part ≤ demand t i R * s.whole
  unfolding demand
  demand_covers R = omega (arith, share.needed R)

  -- where the tasks above need the whole processor, the response equation has no solution
  pub overloaded : s.whole ≤ s.part → response_of t i ≡ none
  overloaded full =
      (response_none t i).1 (λ Q a b q.
      omega (arith, demand_covers Q, mul-le-mul_left Q full, one-le-mul positive share.positive, ap (λ (x : ℕ). x * s.whole) q))

  module _ (part : s.part < s.whole) where
    -- the demand in an interval that is shorter than the start is longer than the interval
    start_under : (r : ℕ) → r < rounded_up (need t i * s.whole) (s.whole - s.part) → r < demand t i r
    start_under r l =
        let short = (rounded_up_below (need t i * s.whole) (s.whole - s.part) r (omega arith)).0 l in
        lt_of_mul-lt-mul_right s.whole (omega (arith, demand_covers r, mul-sub r s.whole s.part))

    -- so the start is a lower bound
    pub start_bound : LowerBound t i (rounded_up (need t i * s.whole) (s.whole - s.part))
    start_bound =
        let start = rounded_up (need t i * s.whole) (s.whole - s.part) in
        let one : 1 ≤ start = rounded_up_positive _ _ (one-le-mul positive share.positive) in
        record {
          positive = one;
          rises = omega (arith, start_under (start - 1) (omega arith), demand_mono t i {Q = start - 1} {R = start} (omega arith));
          below = λ Q a q. (let outside : Q < start → ⊥ = λ l. omega (arith, start_under Q l) in omega arith);
        }

-- ---- the iteration

module _ {t : Table} {i : Task} {r : ℕ} (bound : LowerBound t i r) where
  -- a lower bound that solves the response equation is the response time
  pub iteration_found : demand t i r ≡ r → r ≤ (task_of t i).period → response_of t i ≡ some r
  iteration_found solves within =
      (response_found t i r).1 (record { positive = bound.positive; solves = sym solves; least = bound.below }, within)

  -- the demand at a lower bound is a lower bound
  pub iteration_higher : LowerBound t i (demand t i r)
  iteration_higher =
      record {
        positive = le_trans bound.positive bound.rises;
        rises = demand_mono t i bound.rises;
        below = λ Q a q. omega (arith, demand_mono t i (bound.below Q a q));
      }

  -- a lower bound past the period leaves no solution within it
  pub iteration_past : (task_of t i).period < r → response_of t i ≡ none
  iteration_past past = (response_none t i).1 (λ Q a b q. omega (arith, bound.below Q a q))
