-- Laws of the search for the response time by halving: some interval of length at most b is long enough exactly if
-- the response equation has a solution up to b, and between a lower bound and such a b each look halves what is left.
-- Assumes nothing.
use Rattle.std.specs.Prelude.{◌≡◌, ◌↔◌, Bool, true, drop}
use Prim.Native.Nat.{ℕ, zero, suc, ◌+◌, ◌≤◌, ◌<◌}
use Rattle.std.proofs.Common.{le_trans, add-one}
use Rattle.std.proofs.Math.Nat.{le_antisymm}
use Rattle.std.proofs.Math.Decide.{dec_lt}
use native.Mathlib.Omega.{arith}
use Rattle.std.proofs.Math.Option.{none, some}
use Rattle.taskfile.specs.declared.Table.{Table}
use Rattle.taskfile.specs.declared.Task.{Task}
use Rattle.taskfile.specs.Tables.{tasks_of, task_of}
use Rattle.timing.proofs.Laws.FitLaws.{fits_decided}
use Rattle.timing.specs.Response.{tasks_above, need, demand, response_of}
use Rattle.timing.proofs.Laws.ResponseLaws.{demand_mono, response_found, response_none}
use Rattle.timing.specs.Code.ResponseParts.{NeedOf, LowerBound, Fits, AllFit, fits_from}

-- task i is done within some interval of length 1 to b
abbrev pub DoneBy : Table → Task → ℕ → Type 0
DoneBy t i b = Fits (tasks_above t i) (need t i) b

-- a solution of the response equation up to b
abbrev pub SolvedBy : Table → Task → ℕ → Type 0
SolvedBy t i b = (Q : ℕ) × (1 ≤ Q) × (Q ≤ b) × (Q ≡ demand t i Q)

module _ (t : Table) (i : Task) (positive : 1 ≤ need t i) where
  -- below an interval that is long enough there is a solution: the demand at each that is none is shorter, and long
  -- enough too
  solution_below : (n x : ℕ) → x ≤ n → 1 ≤ x → demand t i x ≤ x → SolvedBy t i x
  unfolding demand
  solution_below zero x le one enough = absurd (omega arith)
  solution_below (suc n) x le one enough =
      elim (dec_lt (demand t i x) x) [
        | yes shorter ↦
            let found = solution_below n (demand t i x) (omega arith) (omega arith) (demand_mono t i enough) in
            (found.0, found.1, omega (arith, found.2), found.3)
        | no same ↦ (x, one, omega arith, le_antisymm (omega arith) enough)
      ]

  -- and each solution is long enough
  pub done_solved : (b : ℕ) → DoneBy t i b ↔ SolvedBy t i b
  unfolding demand
  done_solved b = (
    λ fits.
        let found = solution_below fits.span fits.span (omega arith) fits.positive fits.enough in
        (found.0, found.1, omega (arith, found.2), found.3),
    λ found. record { span = found.0; positive = found.1; within = found.2; enough = omega (arith, found.3) },
  )

  -- where the period is too short, there is no response time
  pub search_none : {P : ℕ} → P ≡ (task_of t i).period → (DoneBy t i P → ⊥) → response_of t i ≡ none
  search_none e short = (response_none t i).1 (λ Q a b q. short ((done_solved _).1 (Q, a, omega arith, q)))

  -- where there is a response time, the task is done by its period
  pub response_done : {R : ℕ} → response_of t i ≡ some R → DoneBy t i (task_of t i).period
  response_done {R} e =
      let found = (response_found t i R).0 e in (done_solved _).1 (R, found.0.positive, found.1, found.0.solves)

-- no solution is below lo, and one is not above hi
pub record Between (t : Table) (i : Task) (lo hi : ℕ) : Type 0 where
  pub ordered : lo ≤ hi
  pub within : hi ≤ (task_of t i).period
  pub done : DoneBy t i hi
  pub below : (Q : ℕ) → 1 ≤ Q → Q ≡ demand t i Q → lo ≤ Q

-- from a lower bound to the period, where the task is done by then
pub search_start : {t : Table} {i : Task} {start P : ℕ} → LowerBound t i start → P ≡ (task_of t i).period → start ≤ P
    → DoneBy t i P → Between t i start P
search_start bound e le done = record { ordered = le; within = omega arith; done = done; below = bound.below }

module _ {t : Table} {i : Task} (positive : 1 ≤ need t i) {lo hi : ℕ} (between : Between t i lo hi) where
  -- a look at an interval that is long enough
  pub search_down : {mid : ℕ} → lo ≤ mid → mid ≤ hi → DoneBy t i mid → Between t i lo mid
  search_down l h done =
      record { ordered = l; within = omega (arith, between.within); done = done; below = between.below }

  -- and at one that is not
  pub search_up : {mid : ℕ} → mid < hi → (DoneBy t i mid → ⊥) → Between t i (mid + 1) hi
  search_up {mid} h short = record {
    ordered = omega arith;
    within = between.within;
    done = between.done;
    below = λ Q a q. (let over : Q ≤ mid → ⊥ = λ le. short ((done_solved t i positive mid).1 (Q, a, le, q)) in omega arith);
  }

  -- where nothing is left between them, that is the response time
  pub search_found : hi ≤ lo → response_of t i ≡ some lo
  search_found le =
      let found = (done_solved t i positive hi).0 between.done in
      let same : found.0 ≡ lo = le_antisymm (le_trans found.2 le) (between.below found.0 found.1 found.3) in
      (response_found t i lo).1 (
        record {
          positive = rw same at found.1;
          solves = rw same at found.3;
          least = between.below;
        },
        omega (arith, between.ordered, between.within),
      )

-- the test as the code calls it
pub done_read : {t : Table} {i : Task} {own b : ℕ} {r : Bool} → NeedOf t i own → AllFit (tasks_above t i)
    → r ≡ fits_from (drop (i.0 + 1) (tasks_of t)) own b → (r ≡ true) ↔ DoneBy t i b
unfolding tasks_above
done_read {t} {i} {own} {b} known all e =
    rw (e, add-one, ← known.same) (fits_decided (tasks_above t i) all own b known.positive)
