-- The tree and its readings from a state on, case by case: at an end, where no more steps may come, and
-- through the moves. And an order by its first byte, which is never a step after the end.
-- Assumes nothing.
use Rattle.std.specs.Prelude.{◌≡◌, true, false}
use Rattle.std.proofs.Math.Path.{refl, ap}
use Rattle.std.proofs.Common.{◌∙◌}
use Rattle.std.proofs.Math.Logic.{inl, inr}
use Prim.Native.Nat.{ℕ, zero, suc, ◌+◌}
use mathlib.Core.List.{List, [], ◌∷◌, ◌++◌, map}
use Rattle.std.proofs.Math.Option.{none, some, bind, bind-eq-some_iff}
use Rattle.std.specs.Prelude.{if◌then◌else◌}
use Rattle.notation.specs.Laws.TestLaws as tests
use Rattle.timing.specs.Accepted.{Accepted}
use Rattle.timing.specs.Code.IsAccepted.{IsAccepted}
use Rattle.timing.proofs.Laws.JobNumberLaws.{all_jobs}
use Rattle.order.specs.Code.Invariant.{Invariant}
use Rattle.order.specs.Orders.{step, run, order_end}
use Rattle.order.specs.States.{State, has_ended, all_ended}
use Rattle.order.proofs.Laws.StepLaws.{good_turn, step_says}
use Rattle.walk.specs.Moves.{Move, moves}
use Rattle.walk.specs.Code.FromState.{orders_from, orders_through, paths_from, paths_through, walk_from, trial}
use Rattle.walk.specs.Paths.{paths_of}
use Rattle.walk.specs.Trees.{ended, tried, through, tree_from}
use Rattle.walk.specs.Walks.{EndedOrder, Walked, starting, orders_of, after_move, at_end, walk_of}

-- ---- the tree, case by case

module _ (a : Accepted) (s : State) where
  tree_end : (n : ℕ) → all_ended a s ≡ true → tree_from a n s ≡ ended s
  unfolding tree_from
  tree_end zero e = rw e refl
  tree_end (suc n) e = rw (e, tree_from) refl

  tree_cut : all_ended a s ≡ false → tree_from a zero s ≡ tried
  unfolding tree_from
  tree_cut e = rw e refl

  tree_on : (n : ℕ) → all_ended a s ≡ false → tree_from a (suc n) s ≡ through (tree_from a n) (moves a s)
  unfolding tree_from
  tree_on n e = rw (e, tree_from) refl

-- ---- its readings through a list of moves

module _ (a : Accepted) (n : ℕ) where
  orders_through_lem : (ms : List Move) → orders_of (through (tree_from a n) ms) ≡ orders_through (orders_from a n) ms
  unfolding orders_of through orders_through orders_from
  orders_through_lem [] = refl
  orders_through_lem (m ∷ ms) = ap (◌++◌ (map (starting m.byte) (orders_from a n m.after))) (orders_through_lem ms)

  walk_through : (ms : List Move) → walk_of (through (tree_from a n) ms) ≡ trial (walk_from a n) ms
  unfolding walk_of through trial walk_from
  walk_through [] = refl
  walk_through (m ∷ ms) = ap (after_move m.byte (walk_from a n m.after)) (walk_through ms)

  paths_through_lem : (ms : List Move) → paths_of (through (tree_from a n) ms) ≡ paths_through (paths_from a n) ms
  unfolding paths_of through paths_through paths_from
  paths_through_lem [] = refl
  paths_through_lem (m ∷ ms) =
      ap (λ (l : List (List ℕ)). (m.byte ∷ []) ∷ (map (λ path. m.byte ∷ path) (paths_from a n m.after) ++ l)) (paths_through_lem ms)

-- ---- its readings, case by case

module _ (a : Accepted) (s : State) where
  -- at a state where all jobs have ended the empty order is complete
  pub orders_end : (n : ℕ) → all_ended a s ≡ true → orders_from a n s ≡ record { bytes = []; ending = order_end s } ∷ []
  unfolding orders_from orders_of
  orders_end n e = ap orders_of (tree_end a s n e)

  -- and elsewhere the orders go through the moves, as long as steps may come
  pub orders_cut : all_ended a s ≡ false → orders_from a zero s ≡ []
  unfolding orders_from orders_of
  orders_cut e = ap orders_of (tree_cut a s e)

  pub orders_on : (n : ℕ) → all_ended a s ≡ false → orders_from a (suc n) s ≡ orders_through (orders_from a n) (moves a s)
  unfolding orders_from
  orders_on n e = ap orders_of (tree_on a s n e) ∙ orders_through_lem a n (moves a s)

  -- so goes the walk
  pub walk_end : (n : ℕ) → all_ended a s ≡ true → walk_from a n s ≡ at_end s
  unfolding walk_from walk_of
  walk_end n e = ap walk_of (tree_end a s n e)

  pub walk_cut : all_ended a s ≡ false → walk_from a zero s ≡ record { failing = none; count = 0 }
  unfolding walk_from walk_of
  walk_cut e = ap walk_of (tree_cut a s e)

  pub walk_on : (n : ℕ) → all_ended a s ≡ false → walk_from a (suc n) s ≡ trial (walk_from a n) (moves a s)
  unfolding walk_from
  walk_on n e = ap walk_of (tree_on a s n e) ∙ walk_through a n (moves a s)

  -- and so go the paths
  pub paths_end : (n : ℕ) → all_ended a s ≡ true → paths_from a n s ≡ []
  unfolding paths_from paths_of
  paths_end n e = ap paths_of (tree_end a s n e)

  pub paths_cut : paths_from a zero s ≡ []
  unfolding paths_from paths_of
  paths_cut =
      elim (tests.test_decided (all_ended a s)) [
        | inl done ↦ ap paths_of (tree_end a s zero done)
        | inr goes ↦ ap paths_of (tree_cut a s goes)
      ]

  pub paths_on : (n : ℕ) → all_ended a s ≡ false → paths_from a (suc n) s ≡ paths_through (paths_from a n) (moves a s)
  unfolding paths_from
  paths_on n e = ap paths_of (tree_on a s n e) ∙ paths_through_lem a n (moves a s)

-- what a move comes to, by what the walk below it has found
module _ (byte : ℕ) (below others : Walked) where
  pub after_none : below.failing ≡ none
      → after_move byte below others ≡ record { failing = others.failing; count = 1 + below.count + others.count }
  unfolding after_move
  after_none e = rw (e, after_move) refl

  pub after_some : {f : EndedOrder} → below.failing ≡ some f
      → after_move byte below others ≡ record { failing = some (starting byte f); count = 1 + below.count }
  unfolding after_move
  after_some e = rw (e, after_move) refl

-- ---- no step after the end

-- where all jobs have ended there is no step
pub end_steps : {a : Accepted} → IsAccepted a → {s : State} → Invariant a s → all_ended a s ≡ true
    → (byte : ℕ) {after : State} → step a s byte ≡ some after → ⊥
unfolding all_ended
end_steps {a} ok {s} inv done byte e =
    let made = step_says a s byte e in
    let good = (good_turn ok inv _ made.due).0 in
    tests.not_both _ (all_jobs a (has_ended s) done _ good.running.job) good.running.unended

-- an order that begins with a byte: that byte is a step, and the rest goes on from there
pub run_first : (a : Accepted) (s : State) (byte : ℕ) (bytes : List ℕ) {after : State}
    → run a s (byte ∷ bytes) ≡ some after
    → (next : State) × (step a s byte ≡ some next) × (run a next bytes ≡ some after)
unfolding run
run_first a s byte bytes e = (bind-eq-some_iff (step a s byte) (λ next. run a next bytes)).0 e

pub run_on : (a : Accepted) (s : State) (byte : ℕ) (bytes : List ℕ) {next after : State} → step a s byte ≡ some next
    → run a next bytes ≡ some after → run a s (byte ∷ bytes) ≡ some after
unfolding run bind
run_on a s byte bytes one e = rw one e
