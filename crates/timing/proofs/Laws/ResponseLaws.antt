-- What `Response` and `Jobs` say: the rounded-up quotient, the response time and the search for it, the jobs in the
-- window.
-- Assumes nothing.
use Rattle.std.specs.Prelude.{◌≡◌, refl, ◌↔◌, ℕ, zero, suc, ◌+◌, ◌-◌, ◌*◌, ◌/◌, ◌%◌, ◌≤◌, ◌<◌, Bool, true, false, List, [], ◌∷◌, eqb}
use Rattle.std.proofs.Common.{ap, subst, zero-le, suc-le-suc, le_antisymm, le_trans, le_refl, not-suc-le-zero}
use Rattle.std.proofs.Common.{le_of_suc-le-suc, add-zero, add-le-add, zero-mul, suc-mul, mul-le-mul_right}
use Rattle.std.proofs.Common.{lt_of_mul-lt-mul_right, div-add-mod', mod-lt, add-one, arith, eqb-true, eq-eqb}
use Rattle.std.proofs.Math.Nat.{mul-sub, div-zero, mod-zero}
use Rattle.std.proofs.Math.Option.{Option, none, some}
use Rattle.std.proofs.Math.Dec.{eqb-suc-zero}
use Rattle.std.proofs.lemmas.Bool.{eqb-false}
use Rattle.taskfile.specs.declared.Table.{Table}
use Rattle.taskfile.specs.declared.Task.{Task}
use Rattle.taskfile.specs.declared.TaskEntry.{TaskEntry}
use Rattle.std.specs.Prelude.{if◌then◌else◌}
use Rattle.notation.specs.Lists.{sum}
use Rattle.taskfile.specs.Tables.{task_of}
use Rattle.timing.specs.Response.{rounded_up, tasks_above, interference, demand, IsResponse, smallest, response_of}
use Rattle.timing.specs.Jobs.{arrival_of, jobs_within}

-- ---- the rounded-up quotient

-- the rounded-up quotient times the divisor: at least the number, and above it by less than the divisor
rounded_up_bounds : (n d : ℕ) → 1 ≤ d → (n ≤ rounded_up n d * d) × (rounded_up n d * d < n + d)
unfolding rounded_up
rounded_up_bounds n d h = go (eqb (n % d) 0) refl
  where
    go : (b : Bool) → eqb (n % d) 0 ≡ b
        → (n ≤ (n / d + (if b then 0 else 1)) * d) × ((n / d + (if b then 0 else 1)) * d < n + d)
    go true e = simp add-zero (omega (arith, eqb-true (n % d) 0 e, div-add-mod' n d))
    go false e = simp (add-one, suc-mul) (omega (arith, eqb-false (n % d) 0 e, div-add-mod' n d, mod-lt n h))

-- the rounded-up quotient times the divisor is at least the number
pub rounded_up_covers : (n d : ℕ) → 1 ≤ d → n ≤ rounded_up n d * d
rounded_up_covers n d h = (rounded_up_bounds n d h).0

-- and exceeds it by less than the divisor
pub rounded_up_tight : (n d : ℕ) → 1 ≤ d → rounded_up n d * d < n + d
rounded_up_tight n d h = (rounded_up_bounds n d h).1

-- k is below the rounded-up quotient exactly if k times the divisor is below the number
pub rounded_up_below : (n d k : ℕ) → 1 ≤ d → (k < rounded_up n d) ↔ (k * d < n)
rounded_up_below n d k h = (
  λ l. omega (arith, rounded_up_tight n d h, simp suc-mul at (mul-le-mul_right d l)),
  λ l. lt_of_mul-lt-mul_right d (le_trans l (rounded_up_covers n d h)),
)

-- it is the only number with both
rounded_up_only : (n d q : ℕ) → 1 ≤ d → n ≤ q * d → q * d < n + d → q ≡ rounded_up n d
rounded_up_only n d q h covers tight =
    le_antisymm
    (le_of_suc-le-suc (lt_of_mul-lt-mul_right d (simp suc-mul (omega (arith, rounded_up_covers n d h)))))
    (le_of_suc-le-suc (lt_of_mul-lt-mul_right d (simp suc-mul (omega (arith, rounded_up_tight n d h)))))

-- the sum with the divisor less one, divided once, is the rounded-up quotient
pub rounded_up_summed : (n d : ℕ) → 1 ≤ d → (n + (d - 1)) / d ≡ rounded_up n d
rounded_up_summed n d h =
    let whole = div-add-mod' (n + (d - 1)) d in
    let rest = mod-lt (n + (d - 1)) h in
    rounded_up_only n d _ h (omega arith) (omega arith)

-- so is, of a positive number, one more than the quotient of the number less one
pub rounded_up_lessened : (n d : ℕ) → 1 ≤ n → 1 ≤ d → (n - 1) / d + 1 ≡ rounded_up n d
rounded_up_lessened n d positive h =
    let whole = div-add-mod' (n - 1) d in
    let rest = mod-lt (n - 1) h in
    rounded_up_only n d _ h (simp (add-one, suc-mul) (omega arith)) (simp (add-one, suc-mul) (omega arith))

-- one less than the rounded-up quotient times the divisor is at most the number
pub rounded_up_before : (n d : ℕ) → 1 ≤ d → (rounded_up n d - 1) * d ≤ n
rounded_up_before n d h = omega (arith, rounded_up_tight n d h, mul-sub d (rounded_up n d) 1)

-- divided by 0, a positive number gives 1
pub rounded_up_by_zero : (n : ℕ) → rounded_up (suc n) 0 ≡ 1
unfolding rounded_up
rounded_up_by_zero n = rw (mod-zero, div-zero, eqb-suc-zero n)

-- the rounded-up quotient of a positive number is positive, whatever the divisor
pub rounded_up_positive : (n d : ℕ) → 1 ≤ n → 1 ≤ rounded_up n d
rounded_up_positive zero d h = absurd (not-suc-le-zero h)
rounded_up_positive (suc n) zero h = omega (arith, rounded_up_by_zero n)
rounded_up_positive (suc n) (suc d) h = (rounded_up_below (suc n) (suc d) 0 (suc-le-suc zero-le)).1 (rw zero-mul h)

-- the rounded-up quotient of a larger number is no smaller, whatever the divisor
pub rounded_up_mono : (d : ℕ) {m n : ℕ} → m ≤ n → rounded_up m d ≤ rounded_up n d
unfolding rounded_up
rounded_up_mono zero {m = zero} h = zero-le
rounded_up_mono zero {m = suc m} {n} h = omega (arith, rounded_up_by_zero m, rounded_up_positive n 0 (omega arith))
rounded_up_mono (suc d) {m} {n} h =
    let tight = rounded_up_tight m (suc d) (suc-le-suc zero-le) in
    let covers = rounded_up_covers n (suc d) (suc-le-suc zero-le) in
    le_of_suc-le-suc (lt_of_mul-lt-mul_right (suc d) (simp suc-mul (omega arith)))

-- ---- interference and demand

-- a longer interval meets no less interference
pub interference_mono : (above : List TaskEntry) {Q R : ℕ} → Q ≤ R → interference above Q ≤ interference above R
unfolding interference sum
interference_mono [] h = zero-le
interference_mono (e ∷ above) h =
    add-le-add (mul-le-mul_right e.execution (rounded_up_mono e.period h)) (interference_mono above h)

-- and no less demand
pub demand_mono : (t : Table) (i : Task) {Q R : ℕ} → Q ≤ R → demand t i Q ≤ demand t i R
unfolding demand
demand_mono t i h = add-le-add (le_refl _) (interference_mono (tasks_above t i) h)

-- ---- the search

-- k is the smallest of the n numbers from `start` on of which the test holds
pub record IsSmallest (test : ℕ → Bool) (start n k : ℕ) : Type 0 where
  pub from : start ≤ k
  pub below : k < start + n
  pub passes : test k ≡ true
  pub least : (j : ℕ) → start ≤ j → test j ≡ true → k ≤ j

-- what each outcome of a search says
abbrev Outcome : (ℕ → Bool) → ℕ → ℕ → Option ℕ → Type 0
Outcome test start n none = (j : ℕ) → start ≤ j → test j ≡ true → start + n ≤ j
Outcome test start n (some k) = IsSmallest test start n k

-- where the test fails at `start`, what passes it lies above
past : (test : ℕ → Bool) {start j : ℕ} → test start ≡ false → start ≤ j → test j ≡ true → start < j
past test {start} {j} e a p =
    let apart : start ≡ j → ⊥ = λ q. (let clash : ◌≡◌ {A = ℕ} 0 1 = cc in omega arith) in
    omega arith

-- where the test fails at `start`, the outcome of the search from the next number on is right from `start` on too
later : (test : ℕ → Bool) (start n : ℕ) (o : Option ℕ) → test start ≡ false → Outcome test (suc start) n o
    → Outcome test start (suc n) o
later test start n none e h = λ j a p. omega (arith, h j (past test e a p) p)
later test start n (some k) e h =
    record { from = omega arith; below = omega arith; passes = h.passes; least = λ j a p. h.least j (past test e a p) p }

-- the search's outcome is right
outcome : (test : ℕ → Bool) (start n : ℕ) → Outcome test start n (smallest test start n)
unfolding smallest
outcome test start zero = λ j a p. omega arith
outcome test start (suc n) = go (test start) refl (outcome test (suc start) n)
  where
    go : (b : Bool) → test start ≡ b → Outcome test (suc start) n (smallest test (suc start) n)
        → Outcome test start (suc n) (elim b [ true ↦ some start | false ↦ smallest test (suc start) n ])
    go true e h = record { from = omega arith; below = omega arith; passes = e; least = λ j a p. a }
    go false e h = later test start n (smallest test (suc start) n) e h

-- the search yields k exactly if k is the smallest number of the range that passes
pub smallest_found : (test : ℕ → Bool) (start n k : ℕ) → (smallest test start n ≡ some k) ↔ IsSmallest test start n k
smallest_found test start n k =
    (λ e. subst (Outcome test start n) e (outcome test start n), go (smallest test start n) (outcome test start n))
  where
    go : (o : Option ℕ) → Outcome test start n o → IsSmallest test start n k → o ≡ some k
    go none h s = absurd (omega (arith, h k s.from s.passes))
    go (some j) h s = ap some (le_antisymm (h.least k s.from s.passes) (s.least j h.from h.passes))

-- it yields nothing exactly if no number of the range passes
pub smallest_none : (test : ℕ → Bool) (start n : ℕ)
    → (smallest test start n ≡ none) ↔ ((j : ℕ) → start ≤ j → j < start + n → test j ≡ true → ⊥)
smallest_none test start n = (
  λ e j a b p. omega (arith, subst (Outcome test start n) e (outcome test start n) j a p),
  go (smallest test start n) (outcome test start n),
)
  where
    go : (o : Option ℕ) → Outcome test start n o → ((j : ℕ) → start ≤ j → j < start + n → test j ≡ true → ⊥) → o ≡ none
    go none h f = refl
    go (some j) h f = absurd (f j h.from h.below h.passes)

-- ---- the response time

-- at most one number is the response time
pub response_unique : {t : Table} {i : Task} {Q R : ℕ} → IsResponse t i Q → IsResponse t i R → Q ≡ R
response_unique q r = le_antisymm (q.least _ r.positive r.solves) (r.least _ q.positive q.solves)

-- the search yields R exactly if R is the response time and at most the period
pub response_found : (t : Table) (i : Task) (R : ℕ)
    → (response_of t i ≡ some R) ↔ (IsResponse t i R × (R ≤ (task_of t i).period))
unfolding response_of
response_found t i R = (
  λ e.
      let s = (smallest_found _ _ _ R).0 e in (
        record {
          positive = s.from;
          solves = eqb-true _ _ s.passes;
          least = λ Q a q. s.least Q a (eq-eqb _ _ q);
        },
        omega arith,
      ),
  λ r.
      (smallest_found _ _ _ R).1
      (record {
        from = r.0.positive;
        below = omega arith;
        passes = eq-eqb _ _ r.0.solves;
        least = λ Q a q. r.0.least Q a (eqb-true _ _ q);
      }),
)

-- it yields nothing exactly if the response equation has no solution from 1 to the period
pub response_none : (t : Table) (i : Task)
    → (response_of t i ≡ none) ↔ ((Q : ℕ) → 1 ≤ Q → Q ≤ (task_of t i).period → Q ≡ demand t i Q → ⊥)
unfolding response_of
response_none t i = (
  λ e Q a b q. (smallest_none _ _ _).0 e Q a (omega arith) (eq-eqb _ _ q),
  λ f. (smallest_none _ _ _).1 (λ Q a b q. f Q a (omega arith) (eqb-true _ _ q)),
)

-- it is at most the period exactly if some solution is
pub response_within : {t : Table} {i : Task} {R : ℕ} → IsResponse t i R
    → (R ≤ (task_of t i).period) ↔ ((Q : ℕ) × (1 ≤ Q) × (Q ≤ (task_of t i).period) × (Q ≡ demand t i Q))
response_within {R = R} r = (λ l. (R, r.positive, l, r.solves), λ s. le_trans (r.least s.0 s.1 s.3) s.2)

-- ---- the jobs

-- job k is one of the task's jobs exactly if it arrives before the window ends
pub jobs_in_window : (window : ℕ) (e : TaskEntry) (k : ℕ) → 1 ≤ e.period
    → (k < jobs_within window e) ↔ (arrival_of e k < window)
unfolding jobs_within arrival_of
jobs_in_window window e k h = (
  λ l. omega (arith, (rounded_up_below _ _ k h).0 l),
  λ l. (rounded_up_below _ _ k h).1 (omega arith),
)
