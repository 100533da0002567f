-- The faults of pairs, found over the marks of a run and the lent arrays, are those of the run and the accepted table.
-- Assumes nothing.
use Rattle.std.specs.Prelude.{◌≡◌, refl, ℕ, zero, suc, ◌+◌, ◌-◌, ◌≤◌, ◌<◌, Bool, true, false, ◌&&◌, ◌||◌, length}
use Rattle.std.proofs.Math.Path.{sym, ap}
use Rattle.std.proofs.Common.{◌∙◌, lt-ltb, le-ltb}
use Rattle.std.proofs.Math.Decide.{dec_lt}
use native.Mathlib.Omega.{arith}
use Rattle.std.proofs.Math.Bool.{not}
use mathlib.Core.List.{List, [], ◌∷◌, map, map-map}
use Rattle.std.proofs.Math.ListN.{get_or}
use Rattle.std.proofs.Math.Dec.{ltb}
use Rattle.notation.specs.Checked.{refused, none_of, placed_by}
use Rattle.std.specs.Prelude.{if◌then◌else◌}
use Rattle.notation.specs.Lists.{from, up_to, all, only, each, first_or, last_or}
use Rattle.notation.specs.Ordered.{Every}
use Rattle.notation.specs.Laws.ListLaws.{each_map}
use Rattle.notation.specs.Laws.PairLaws.{every_imp, every_map, every_each, from_within}
use Rattle.notation.specs.Laws.TabulateLaws.{values_at}
use Rattle.taskfile.specs.declared.Ceilings.{Ceilings}
use Rattle.timing.specs.declared.Job.{Job}
use Rattle.timing.specs.Accepted.{Accepted}
use Rattle.timing.specs.Relations.{IsJob, job_numbers}
use Rattle.plan.specs.Runs.{Step, JobRuns, first_round, earlier, not_later}
use Rattle.plan.specs.Legality.{Pair, pairs, steps_of, rounds_of, start, end, before_rule, apart, nested, no_step_within}
use Rattle.plan.specs.Legality.{preempt_rule, priority_at, lock_rule, order_fault, lock_fault}
use Rattle.order_states.specs.Code.SnapshotSteps.{owner_in}
use Rattle.order_states.proofs.Laws.ShowLaws.{before_lent, preempts_lent}
use Rattle.plan_marks.specs.declared.Marks.{Marks}
use Rattle.plan_marks.specs.Code.Marks.{steps_marked, rounds_in, steps_in}
use Rattle.plan_marks.specs.Code.PairParts.{round_of_start, round_of_end, before_kept, rounds_apart, rounds_nested, none_within}
use Rattle.plan_marks.specs.Code.PairParts.{preempt_kept, priority_reached, lock_kept, order_faulty, lock_faulty}
use Rattle.plan_marks.specs.Code.PairParts.{pairs_with, pair_fault_among, pair_fault_in}
use Rattle.plan_marks.specs.Code.RunParts.{Holds}

-- ---- the pairs, by number

abbrev job : ℕ → Job
job n = record { 0 = n }

abbrev pair_of : ℕ → ℕ → Pair
pair_of x y = record { lower = job x; higher = job y }

-- of images, those that are wanted
only_map : {A B : Type 0} (test : B → Bool) (f : A → B) (xs : List A)
    → only test (map f xs) ≡ map f (only (λ x. test (f x)) xs)
unfolding only
only_map test f [] = refl
only_map test f (x ∷ xs) = rw (only_map test f xs) (chosen (test (f x)))
  where
    chosen : (b : Bool)
        → (if b then f x ∷ map f (only (λ x. test (f x)) xs) else map f (only (λ x. test (f x)) xs))
        ≡ map f (if b then x ∷ only (λ x. test (f x)) xs else only (λ x. test (f x)) xs)
    chosen true = refl
    chosen false = refl

-- the numbers above x
all_above : (x s n : ℕ) → x < s → only (ltb x) (from s n) ≡ from s n
unfolding from only
all_above x s zero lt = refl
all_above x s (suc n) lt = rw (lt-ltb x s lt) (ap (λ (l : List ℕ). s ∷ l) (all_above x (suc s) n (omega arith)))

above_only : (x s n : ℕ) → s ≤ suc x → only (ltb x) (from s n) ≡ from (suc x) (s + n - suc x)
unfolding from only
above_only x s zero le = let none : 0 ≡ s + 0 - suc x = omega arith in ap (from (suc x)) none
above_only x s (suc n) le =
    elim (dec_lt x s) [
      | yes lt ↦
          (let here : s ≡ suc x = omega arith in
          let left : suc n ≡ s + suc n - suc x = omega arith in
          rw (lt-ltb x s lt)
          (ap (λ (l : List ℕ). s ∷ l) (all_above x (suc s) n (omega arith)) ∙ (λ j. from (here j) (left j))))
      | no other ↦
          (let left : suc s + n - suc x ≡ s + suc n - suc x = omega arith in
          rw (le-ltb x s (omega arith)) (above_only x (suc s) n (omega arith) ∙ ap (from (suc x)) left))
    ]

pairs_listed : (a : Accepted) (k : ℕ) → length a.jobs ≡ k → pairs a ≡ each (up_to k) (pairs_with k)
unfolding pairs job_numbers pairs_with up_to
pairs_listed a k total =
    each_map job (from 0 n) _ ∙ ap (each (from 0 n)) (λ j x. with_x x j)
    ∙ ap (λ (m : ℕ). each (from 0 m) (λ x. map (pair_of x) (from (suc x) (m - suc x)))) total
  where
    n : ℕ
    n = length a.jobs

    with_x : (x : ℕ)
        → map (λ y. record { lower = job x; higher = y }) (only (λ y. ltb x y.0) (map job (from 0 n)))
        ≡ map (pair_of x) (from (suc x) (n - suc x))
    with_x x =
        let count : 0 + n - suc x ≡ n - suc x = omega arith in
        ap (map (λ y. record { lower = job x; higher = y })) (only_map (λ y. ltb x y.0) job (from 0 n))
        ∙ map-map (λ y. record { lower = job x; higher = y }) job (only (ltb x) (from 0 n))
        ∙ ap (map (pair_of x)) (above_only x 0 n (omega arith) ∙ ap (from (suc x)) count)

-- ---- where two faults agree on what is listed

none_agreed : {P : Type 0} (number : ℕ) (f g : P → Bool) (xs : List P) → Every (λ p. f p ≡ g p) xs
    → none_of number f xs ≡ none_of number g xs
unfolding none_of
none_agreed number f g [] same = refl
none_agreed number f g (x ∷ xs) same =
    (λ j. if same.0 j then refused number x else none_agreed number f g xs same.1 j)

every_pair : (P : Pair → Type 0) (k : ℕ) → ((x y : ℕ) → x < y → y < k → P (pair_of x y))
    → Every P (each (up_to k) (pairs_with k))
unfolding up_to pairs_with
every_pair P k h =
    every_each P (pairs_with k) (from 0 k)
    (every_imp (λ x. (0 ≤ x) × (x < 0 + k)) (λ x. Every P (pairs_with k x)) (λ x is_x. with_x x is_x.1) (from 0 k)
    (from_within 0 k))
  where
    with_x : (x : ℕ) → x < 0 + k → Every P (pairs_with k x)
    with_x x lt =
        every_map P (pair_of x) (from (suc x) (k - suc x))
        (every_imp (λ y. (suc x ≤ y) × (y < suc x + (k - suc x))) (λ y. P (pair_of x y))
        (λ y isY. h x y isY.0 (omega (arith, isY.1))) (from (suc x) (k - suc x)) (from_within (suc x) (k - suc x)))

-- ---- the rules

module _ {a : Accepted} {program times : List ℕ} {locks : Ceilings} {k : ℕ} (holds : Holds a program times locks k)
    (marks : Marks) (runs : JobRuns) (same : runs.steps ≡ steps_in marks k) where
  steps_agreed : (x : ℕ) → x < k → steps_marked marks x ≡ steps_of runs (job x)
  unfolding steps_of steps_in
  steps_agreed x lt =
      sym (ap (λ (l : List (List Step)). get_or l x []) same ∙ values_at (steps_marked marks) k x [] lt)

  rounds_agreed : (x : ℕ) → x < k → rounds_in marks x ≡ rounds_of runs (job x)
  unfolding rounds_in rounds_of
  rounds_agreed x lt = ap (map (λ step. step.round)) (steps_agreed x lt)

  start_agreed : (x : ℕ) → x < k → round_of_start marks x ≡ start runs (job x)
  unfolding round_of_start start
  start_agreed x lt = ap (first_or first_round) (rounds_agreed x lt)

  end_agreed : (x : ℕ) → x < k → round_of_end marks x ≡ end runs (job x)
  unfolding round_of_end end
  end_agreed x lt = ap (last_or first_round) (rounds_agreed x lt)

  is_job : (x : ℕ) → x < k → IsJob a (job x)
  is_job x lt = omega (arith, holds.total)

  before_agreed : (x y : ℕ) → x < k → y < k → (x ≡ y → ⊥)
      → before_kept program times marks x y ≡ before_rule a runs (job x) (job y)
  unfolding before_kept before_rule
  before_agreed x y is_x isY distinct =
      let order = before_lent holds.lends (job x) (job y) (is_job x is_x) (is_job y isY) distinct in
      let ends = end_agreed x is_x in
      let starts = start_agreed y isY in
      λ j. not (order j) || earlier (ends j) (starts j)

  apart_agreed : (x y : ℕ) → x < k → y < k → rounds_apart marks x y ≡ apart runs (job x) (job y)
  unfolding rounds_apart apart
  apart_agreed x y is_x isY =
      let ends = end_agreed x is_x in
      let starts = start_agreed y isY in
      let ends' = end_agreed y isY in
      let starts' = start_agreed x is_x in
      λ j. earlier (ends j) (starts j) || earlier (ends' j) (starts' j)

  nested_agreed : (y x : ℕ) → y < k → x < k → rounds_nested marks y x ≡ nested runs (job y) (job x)
  unfolding rounds_nested nested
  nested_agreed y x isY is_x =
      let starts = start_agreed x is_x in
      let starts' = start_agreed y isY in
      let ends = end_agreed y isY in
      let ends' = end_agreed x is_x in
      λ j. not_later (starts j) (starts' j) && earlier (ends j) (ends' j)

  within_agreed : (x y : ℕ) → x < k → y < k
      → none_within marks x (round_of_start marks y) (round_of_end marks y) ≡ no_step_within runs (job x) (job y)
  unfolding none_within no_step_within
  within_agreed x y is_x isY =
      let starts = start_agreed y isY in
      let ends = end_agreed y isY in
      let steps = rounds_agreed x is_x in
      λ j. all (λ r. not (earlier (starts j) r && not_later r (ends j))) (steps j)

  preempt_agreed : (y x : ℕ) → y < k → x < k
      → preempt_kept program times marks y x ≡ preempt_rule a runs (job y) (job x)
  unfolding preempt_kept preempt_rule
  preempt_agreed y x isY is_x =
      let may = preempts_lent holds.lends (job y) (job x) (is_job y isY) (is_job x is_x) in
      let off = apart_agreed x y is_x isY in
      let inside = nested_agreed y x isY is_x in
      let free = within_agreed x y is_x isY in
      λ j. not (may j) || off j || inside j && free j

  priority_agreed : (x y : ℕ) → x < k → y < k
      → priority_reached marks (owner_in program x) x (round_of_start marks y) ≡ priority_at a runs (job x) (start runs (job y))
  unfolding priority_reached priority_at
  priority_agreed x y is_x isY =
      let owner = holds.lends.table.owner (job x) (is_job x is_x) in
      let starts = start_agreed y isY in
      let steps = steps_agreed x is_x in
      λ j. last_or (owner j)
      (map (λ step. step.priority_after) (only (λ step. not_later step.round (starts j)) (steps j)))

  lock_agreed : (y x : ℕ) → y < k → x < k → lock_kept program times marks y x ≡ lock_rule a runs (job y) (job x)
  unfolding lock_kept lock_rule
  lock_agreed y x isY is_x =
      let may = preempts_lent holds.lends (job y) (job x) (is_job y isY) (is_job x is_x) in
      let inside = nested_agreed y x isY is_x in
      let held = priority_agreed x y is_x isY in
      let owner = holds.lends.table.owner (job y) (is_job y isY) in
      λ j. not (may j && inside j) || ltb (held j) (owner j)

  order_agreed : (x y : ℕ) → x < y → y < k
      → order_faulty program times marks x y ≡ order_fault a runs (pair_of x y)
  unfolding order_faulty order_fault
  order_agreed x y lt isY =
      let is_x : x < k = omega arith in
      let first = before_agreed x y is_x isY (λ e. omega arith) in
      let second = before_agreed y x isY is_x (λ e. omega arith) in
      let third = preempt_agreed y x isY is_x in
      let fourth = preempt_agreed x y is_x isY in
      λ j. not (first j && second j && third j && fourth j)

  locks_agreed : (x y : ℕ) → x < y → y < k
      → lock_faulty program times marks x y ≡ lock_fault a runs (pair_of x y)
  unfolding lock_faulty lock_fault
  locks_agreed x y lt isY =
      let is_x : x < k = omega arith in
      let first = lock_agreed y x isY is_x in
      let second = lock_agreed x y is_x isY in
      λ j. not (first j && second j)

  -- a test that agrees on each pair
  fault_agreed : (number : ℕ) (test : ℕ → ℕ → Bool) (fault : Pair → Bool)
      → ((x y : ℕ) → x < y → y < k → test x y ≡ fault (pair_of x y))
      → pair_fault_in number test k ≡ placed_by (λ p. p.lower.0) (none_of number fault (pairs a))
  unfolding pair_fault_in pair_fault_among
  fault_agreed number test fault agree =
      ap (placed_by (λ p. p.lower.0))
      (none_agreed number (λ p. test p.lower.0 p.higher.0) fault (each (up_to k) (pairs_with k))
      (every_pair (λ p. test p.lower.0 p.higher.0 ≡ fault p) k agree)
      ∙ ap (none_of number fault) (sym (pairs_listed a k holds.total)))

-- ---- the faults

pub pairs_agreed : {a : Accepted} {program times : List ℕ} {locks : Ceilings} {k : ℕ}
    → Holds a program times locks k → (marks : Marks) (runs : JobRuns) → runs.steps ≡ steps_in marks k
    → (pair_fault_in 43 (order_faulty program times marks) k
    ≡ placed_by (λ p. p.lower.0) (none_of 43 (order_fault a runs) (pairs a)))
    × (pair_fault_in 44 (lock_faulty program times marks) k ≡ placed_by (λ p. p.lower.0) (none_of 44 (lock_fault a runs) (pairs a)))
pairs_agreed {a} {program} {times} holds marks runs same = (
  fault_agreed holds marks runs same 43 (order_faulty program times marks) (order_fault a runs) (order_agreed holds marks runs same),
  fault_agreed holds marks runs same 44 (lock_faulty program times marks) (lock_fault a runs) (locks_agreed holds marks runs same),
)
