-- The rules of legal plans as their functions yield them, over marks, stores and the lent table.
-- Assumes nothing.
use Rattle.std.specs.Prelude.{◌≡◌, ℕ, suc, ◌-◌, ◌<◌, Bool, not, ◌&&◌, ◌||◌, List, ◌∷◌, map, get_or, ltb}
use Rattle.notation.specs.Checked.{Checked, none_of, placed_by, ◌>>◌}
use Rattle.notation.specs.Lists.{from, up_to, all, only, each, same, first_or, last_or}
use Rattle.timing.specs.declared.ListedJob.{ListedJob}
use Rattle.machine.specs.Ends.{no_store}
use Rattle.machine.specs.Instructions.{Store}
use Rattle.plan.specs.declared.Round.{Round}
use Rattle.plan.specs.Legality.{Pair}
use Rattle.plan.specs.Runs.{Plan, first_round, earlier, not_later, guess}
use Rattle.order_states.specs.Code.SnapshotSteps.{Program, LentTimes, owner_in, before_in, preempts_in}
use Rattle.plan_marks.specs.declared.Marks.{Marks}
use Rattle.plan_marks.specs.declared.StepMark.{StepMark}
use Rattle.plan_marks.specs.Code.Marks.{stores_in, steps_marked, rounds_in, steps_listed}

-- ---- two jobs

unfoldable pub round_of_start : Marks → ℕ → Round
round_of_start marks x = first_or first_round (rounds_in marks x)

-- that of the first step in arrays of any marks
unfoldable pub round_of_first : List ℕ → List StepMark → ℕ → Round
round_of_first counts steps x = first_or first_round (map (λ step. step.round) (steps_listed counts steps x))

unfoldable pub round_of_end : Marks → ℕ → Round
round_of_end marks x = last_or first_round (rounds_in marks x)

unfoldable pub before_kept : Program → LentTimes → Marks → ℕ → ℕ → Bool
before_kept program times marks x y =
    not (before_in program times x y) || earlier (round_of_end marks x) (round_of_start marks y)

unfoldable pub rounds_apart : Marks → ℕ → ℕ → Bool
rounds_apart marks x y =
    earlier (round_of_end marks x) (round_of_start marks y) || earlier (round_of_end marks y) (round_of_start marks x)

-- y is nested in x
unfoldable pub rounds_nested : Marks → ℕ → ℕ → Bool
rounds_nested marks y x =
    not_later (round_of_start marks x) (round_of_start marks y) && earlier (round_of_end marks y) (round_of_end marks x)

-- x has no step in rounds r + 1 to q
unfoldable pub none_within : Marks → ℕ → Round → Round → Bool
none_within marks x r q = all (λ p. not (earlier r p && not_later p q)) (rounds_in marks x)

unfoldable pub preempt_kept : Program → LentTimes → Marks → ℕ → ℕ → Bool
preempt_kept program times marks y x =
    not (preempts_in program times y x)
    || rounds_apart marks x y
    || rounds_nested marks y x && none_within marks x (round_of_start marks y) (round_of_end marks y)

-- x's priority after its steps up to round r, where its base is this
unfoldable pub priority_reached : Marks → ℕ → ℕ → Round → ℕ
priority_reached marks base x r =
    last_or base (map (λ step. step.priority_after) (only (λ step. not_later step.round r) (steps_marked marks x)))

unfoldable pub lock_kept : Program → LentTimes → Marks → ℕ → ℕ → Bool
lock_kept program times marks y x =
    not (preempts_in program times y x && rounds_nested marks y x)
    || ltb (priority_reached marks (owner_in program x) x (round_of_start marks y)) (owner_in program y)

unfoldable pub order_faulty : Program → LentTimes → Marks → ℕ → ℕ → Bool
order_faulty program times marks x y =
    not (before_kept program times marks x y && before_kept program times marks y x
    && preempt_kept program times marks y x && preempt_kept program times marks x y)

unfoldable pub lock_faulty : Program → LentTimes → Marks → ℕ → ℕ → Bool
lock_faulty program times marks x y =
    not (lock_kept program times marks y x && lock_kept program times marks x y)

-- ---- all pairs

-- a function may be called with the pairs of k jobs, the lower first
pub record TakesPairs (pre : ListedJob → ListedJob → Type 0) (k : ℕ) : Type 0 where
  pub takes : (x y : ListedJob) → x.number < y.number → y.number < k → pre x y

-- it judges them by a test
pub record JudgesPairs (post : ListedJob → ListedJob → Bool → Type 0) (test : ℕ → ℕ → Bool) (k : ℕ) : Type 0 where
  pub judges : (x y : ListedJob) → x.number < y.number → y.number < k → (b : Bool) → post x y b
      → b ≡ test x.number y.number

-- the pairs of x with the jobs above it, of k jobs
unfoldable pub pairs_with : ℕ → ℕ → List Pair
pairs_with k x =
    map (λ y. record { lower = record { 0 = x }; higher = record { 0 = y } }) (from (suc x) (k - suc x))

-- the first pair with the fault, among those whose lower job is listed
unfoldable pub pair_fault_among : ℕ → (ℕ → ℕ → Bool) → ℕ → List ℕ → Checked ℕ (Unit {0})
pair_fault_among number faulty k xs =
    placed_by (λ p. p.lower.0) (none_of number (λ p. faulty p.lower.0 p.higher.0) (each xs (pairs_with k)))

unfoldable pub pair_fault_in : ℕ → (ℕ → ℕ → Bool) → ℕ → Checked ℕ (Unit {0})
pair_fault_in number faulty k = pair_fault_among number faulty k (up_to k)

-- ---- the guesses

-- the store that round r must start from, of k rounds
unfoldable pub due_store_in : Store → List ℕ → ℕ → ℕ → Store
due_store_in store stores k r = get_or (store ∷ stores_in stores k) r no_store

unfoldable pub guess_fault_from : Plan → Store → List ℕ → ℕ → List ℕ → Checked ℕ (Unit {0})
guess_fault_from plan store stores k rs =
    none_of 45 (λ r. not (same (guess plan (record { 0 = r })) (due_store_in store stores k r))) rs

unfoldable pub guess_fault_in : Plan → Store → List ℕ → ℕ → Checked ℕ (Unit {0})
guess_fault_in plan store stores k = guess_fault_from plan store stores k (up_to k)

-- ---- 43, 44, 45

unfoldable pub legality_in : Program → LentTimes → Plan → Store → List ℕ → Marks → ℕ → Checked ℕ (Unit {0})
legality_in program times plan store stores marks k = do
  pair_fault_in 43 (order_faulty program times marks) k
  pair_fault_in 44 (lock_faulty program times marks) k
  guess_fault_in plan store stores k
