-- Laws of the test by scheduling points, after Bini and Buttazzo: whether base and the listed tasks are done in some
-- interval of length at most b, where each of these tasks meets its own period. Since the interference of two
-- intervals together is at most their sum, a period more has room for an execution time more, and so the last
-- multiple of a period stands for the earlier ones.
-- Assumes nothing.
use Rattle.std.specs.Prelude.{◌≡◌, refl, ◌↔◌, ◌⊎◌, ℕ, zero, suc, ◌+◌, ◌-◌, ◌*◌, ◌^◌, ◌≤◌, ◌<◌, Bool, true, false, not}
use Rattle.std.specs.Prelude.{◌&&◌, ◌||◌, List, [], ◌∷◌, drop, leb, eqb}
use Rattle.std.proofs.Common.{sym, ⊎_elim, zero-le, suc-le-suc, le_trans, zero-add, suc-add, add-mul, mul-le-mul_left, mul-le-mul_right}
use Rattle.std.proofs.Math.Path.{ap}
use Rattle.std.proofs.Math.Logic.{inl, inr}
use Rattle.std.proofs.Math.Nat.{mul-sub}
use Rattle.std.proofs.Math.Decide.{dec_lt}
use native.Mathlib.Omega.{arith}
use Rattle.std.proofs.lemmas.Bool.{false≢true}
use borrow.Author.Tests.{leb-true, leb-false, le-leb, lt-leb, eqb-true, eq-eqb, ne_eqb}
use Rattle.taskfile.specs.declared.Table.{Table}
use Rattle.taskfile.specs.declared.TaskEntry.{TaskEntry}
use Rattle.taskfile.specs.Judgement.{numbered}
use Rattle.notation.specs.Lists.{sum}
use Rattle.taskfile.specs.Tables.{tasks_of}
use Rattle.timing.specs.Response.{rounded_up, interference}
use Rattle.timing.proofs.Laws.ResponseLaws.{rounded_up_covers, rounded_up_tight, rounded_up_below, rounded_up_before}
use Rattle.timing.proofs.Laws.ResponseLaws.{rounded_up_by_zero, rounded_up_positive, rounded_up_mono}
use Rattle.timing.specs.Code.ResponseParts.{Timeable, Fits, AllFit, fits_from}
use Rattle.timing.proofs.Laws.TimeableLaws.{TimesRead, tasks_next, times_end}

-- ---- the interference of two intervals

-- the rounded-up quotient of a sum is at most the sum of the two
pub rounded_up_sum : (d m n : ℕ) → rounded_up (m + n) d ≤ rounded_up m d + rounded_up n d
rounded_up_sum zero zero n = rw zero-add (omega arith)
rounded_up_sum zero (suc m) n = rw suc-add (omega (arith, rounded_up_by_zero (m + n), rounded_up_positive (suc m) 0 (omega arith)))
rounded_up_sum (suc d) m n =
    let one : 1 ≤ suc d = suc-le-suc zero-le in
    let u = rounded_up m (suc d) in
    let v = rounded_up n (suc d) in
    let over : u + v < rounded_up (m + n) (suc d) → ⊥ = λ l.
    omega (
      arith,
      (rounded_up_below (m + n) (suc d) (u + v) one).0 l,
      add-mul u v (suc d),
      rounded_up_covers m (suc d) one,
      rounded_up_covers n (suc d) one,
    ) in
    omega arith

-- an interval meets at most the interference that two parts of it meet
pub interference_sum : (above : List TaskEntry) (x y : ℕ)
    → interference above (x + y) ≤ interference above x + interference above y
unfolding interference sum
interference_sum [] x y = zero-le
interference_sum (e ∷ above) x y =
    omega (
      arith,
      interference_sum above x y,
      mul-le-mul_right e.execution (rounded_up_sum e.period x y),
      add-mul (rounded_up x e.period) (rounded_up y e.period) e.execution,
    )

-- ---- slack

module _ {above : List TaskEntry} {base b : ℕ} (fits : Fits above base b) where
  -- less to do in a longer interval
  pub fits_easier : {less more : ℕ} → less ≤ base → b ≤ more → Fits above less more
  fits_easier l m = record { span = fits.span; positive = fits.positive; within = omega arith; enough = omega arith }

  -- what is done in an interval and what is done in another are done in both together
  pub slack : {C P : ℕ} → Fits above C P → Fits above (base + C) (b + P)
  slack own = record {
    span = fits.span + own.span;
    positive = omega arith;
    within = omega arith;
    enough = omega (arith, interference_sum above fits.span own.span);
  }

-- so n periods more have room for n execution times more
pub slack_times : {above : List TaskEntry} {base b C P : ℕ} → Fits above C P → (n : ℕ) → Fits above base b
    → Fits above (base + n * C) (b + n * P)
slack_times own zero fits = fits_easier fits (omega arith) (omega arith)
slack_times own (suc n) fits = fits_easier (slack (slack_times own n fits) own) (omega arith) (omega arith)

-- as many as it takes to come from w windows to n
slack_up : {above : List TaskEntry} {C P : ℕ} → Fits above C P → (base w n : ℕ) → Fits above (base + w * C) (w * P)
    → w ≤ n → Fits above (base + n * C) (n * P)
slack_up {C = C} {P = P} own base w n fits le =
    let rest = n - w in
    let split : n ≡ w + rest = omega arith in
    fits_easier (slack_times own rest fits)
    (omega (arith, ap (λ (m : ℕ). m * C) split, add-mul w rest C))
    (omega (arith, ap (λ (m : ℕ). m * P) split, add-mul w rest P))

-- ---- one task

-- a task that meets its period has one
fits_period : {above : List TaskEntry} {C P : ℕ} → Fits above C P → 1 ≤ P
fits_period fits = omega arith

-- an interval of length up to n periods meets at most n executions
windows : (e : TaskEntry) (above : List TaskEntry) (n x : ℕ) → 1 ≤ e.period → x ≤ n * e.period
    → interference (e ∷ above) x ≤ n * e.execution + interference above x
unfolding interference sum
windows e above n x positive le =
    let over : n < rounded_up x e.period → ⊥ = λ l. omega (arith, (rounded_up_below x e.period n positive).0 l) in
    omega (arith, mul-le-mul_right {m = rounded_up x e.period} {n = n} e.execution (omega arith))

module _ (e : TaskEntry) (above : List TaskEntry) (own : Fits above e.execution e.period) (base b : ℕ) where
  -- where all windows that begin before b are counted, any interval of length up to b may serve
  pub fits_last : Fits above (base + rounded_up b e.period * e.execution) b → Fits (e ∷ above) base b
  fits_last fits =
      let positive = fits_period own in
      let long = le_trans fits.within (rounded_up_covers b e.period positive) in
      record {
        span = fits.span;
        positive = fits.positive;
        within = fits.within;
        enough = omega (arith, windows e above (rounded_up b e.period) fits.span positive long);
      }

  -- where the last of them is not, any interval up to its beginning
  pub fits_before : Fits above (base + (rounded_up b e.period - 1) * e.execution) ((rounded_up b e.period - 1) * e.period)
      → Fits (e ∷ above) base b
  fits_before fits = record {
    span = fits.span;
    positive = fits.positive;
    within = le_trans fits.within (rounded_up_before b e.period (fits_period own));
    enough = omega (arith, windows e above (rounded_up b e.period - 1) fits.span (fits_period own) fits.within);
  }

  -- and one of the two does serve: b itself, if it is a multiple of the period
  pub fits_cases : Fits (e ∷ above) base b
      → Fits above (base + rounded_up b e.period * e.execution) b
      ⊎ ((rounded_up b e.period * e.period ≡ b → ⊥)
      × Fits above (base + (rounded_up b e.period - 1) * e.execution) ((rounded_up b e.period - 1) * e.period))
  unfolding interference sum
  fits_cases fits =
      let positive = fits_period own in
      let x = fits.span in
      let n = rounded_up b e.period in
      let w = rounded_up x e.period in
      let begun : Fits above (base + w * e.execution) (w * e.period) = record {
        span = x;
        positive = fits.positive;
        within = rounded_up_covers x e.period positive;
        enough = omega arith;
      } in
      elim (dec_lt w n) [
        | yes fewer ↦
            elim (dec_lt b (n * e.period)) [
              | yes part ↦ inr (λ whole. omega arith, slack_up own base w (n - 1) begun (omega arith))
              | no whole ↦ inl (fits_easier (slack_up own base w n begun (omega arith)) (omega arith) (omega arith))
            ]
        | no all ↦
            let same : w ≡ n = omega (arith, rounded_up_mono e.period fits.within) in
            inl (record {
              span = x;
              positive = fits.positive;
              within = fits.within;
              enough = omega (arith, ap (λ (m : ℕ). m * e.execution) same);
            })
      ]

-- ---- the test

-- the test is right
pub fits_decided : (above : List TaskEntry) → AllFit above → (base b : ℕ) → 1 ≤ base
    → (fits_from above base b ≡ true) ↔ Fits above base b
unfolding fits_from interference sum
fits_decided [] all base b one = (
  λ h. record { span = base; positive = one; within = leb-true base b h; enough = omega arith },
  λ fits. le-leb base b (omega arith),
)
fits_decided (e ∷ above) all base b one =
    go (leb base b) _ (eqb (n * e.period) b) _ refl refl
    (fits_decided above all.1 (base + n * e.execution) b (omega arith))
    (fits_decided above all.1 (base + (n - 1) * e.execution) ((n - 1) * e.period) (omega arith))
  where
    n : ℕ
    n = rounded_up b e.period

    go : (long last whole before : Bool) → leb base b ≡ long → eqb (n * e.period) b ≡ whole
        → (last ≡ true) ↔ Fits above (base + n * e.execution) b
        → (before ≡ true) ↔ Fits above (base + (n - 1) * e.execution) ((n - 1) * e.period)
        → ((long && (last || not whole && before)) ≡ true) ↔ Fits (e ∷ above) base b
    go false last whole before l w a z =
        (λ h. absurd (false≢true h), λ fits. absurd (omega (arith, leb-false base b l)))
    go true true whole before l w a z = (λ h. fits_last e above all.0 base b (a.0 refl), λ fits. refl)
    go true false true before l w a z = (
      λ h. absurd (false≢true h),
      λ fits. ⊎_elim a.1 (λ h. absurd (h.0 (eqb-true _ _ w))) (fits_cases e above all.0 base b fits),
    )
    go true false false before l w a z = (
      λ h. fits_before e above all.0 base b (z.0 h),
      λ fits. ⊎_elim (λ h. absurd (false≢true (a.1 h))) (λ h. z.1 h.1) (fits_cases e above all.0 base b fits),
    )

-- ---- the test from task j on

-- where b is no multiple of the period, a window begins before it
pub from_some : {P b n : ℕ} → 1 ≤ P → n ≡ rounded_up b P → (n * P ≡ b → ⊥) → 1 ≤ n
from_some {P} {b} {n = zero} positive same part = absurd (part (omega (arith, rw (← same) at (rounded_up_covers b P positive))))
from_some {n = suc n} positive same part = suc-le-suc zero-le

module _ {t : Table} (timeable : Timeable t) {j C P base b n : ℕ} (lt : j < t.tasks)
    (read : TimesRead t (numbered j) C P) (le : base ≤ b) (same : n ≡ rounded_up b P) where
  -- one step of the test, with the times as read
  from_step : fits_from (drop j (tasks_of t)) base b
      ≡ (fits_from (drop (j + 1) (tasks_of t)) (base + n * C) b
      || not (eqb (n * P) b) && fits_from (drop (j + 1) (tasks_of t)) (base + (n - 1) * C) ((n - 1) * P))
  unfolding fits_from
  from_step = rw (tasks_next timeable.shaped j lt, le-leb base b le, ← read.execution, ← read.period, ← same)

  -- where all is done by b
  pub from_last : true ≡ fits_from (drop (j + 1) (tasks_of t)) (base + n * C) b
      → true ≡ fits_from (drop j (tasks_of t)) base b
  from_last done = rw (from_step, ← done)

  -- where b is a multiple of the period, by b alone
  pub from_whole : {r : Bool} → n * P ≡ b → r ≡ fits_from (drop (j + 1) (tasks_of t)) (base + n * C) b
      → r ≡ fits_from (drop j (tasks_of t)) base b
  from_whole {r} whole done = rw (from_step, eq-eqb (n * P) b whole, ← done) (go r)
    where
      go : (r : Bool) → r ≡ (r || false)
      go true = refl
      go false = refl

  -- where it is none and not all is done by b, by the last multiple before b
  pub from_before : {r : Bool} → (n * P ≡ b → ⊥) → false ≡ fits_from (drop (j + 1) (tasks_of t)) (base + n * C) b
      → r ≡ fits_from (drop (j + 1) (tasks_of t)) (base + n * C - C) (n * P - P)
      → r ≡ fits_from (drop j (tasks_of t)) base b
  from_before part short done =
      let some = from_some (omega arith) same part in
      let done-less : base + n * C - C ≡ base + (n - 1) * C = omega (arith, mul-sub C n 1, mul-le-mul_right C some) in
      let whole-less : n * P - P ≡ (n - 1) * P = omega (arith, mul-sub P n 1) in
      rw (from_step, ← short, ne_eqb (n * P) b part, ← done-less, ← whole-less) done

-- where base takes longer than b
pub from_short : (above : List TaskEntry) (base b : ℕ) → b < base → false ≡ fits_from above base b
unfolding fits_from
from_short [] base b lt = sym (lt-leb base b lt)
from_short (e ∷ above) base b lt = rw (lt-leb base b lt)

-- past the last task
pub from_end : {t : Table} → Timeable t → (j : ℕ) {base b : ℕ} → t.tasks ≤ j → base ≤ b
    → true ≡ fits_from (drop j (tasks_of t)) base b
unfolding fits_from
from_end timeable j {base} {b} end le = rw (times_end timeable.shaped j end, le-leb base b le)

-- what the code works out fits
pub from_fits : {C P b n : ℕ} → 1 ≤ P → C ≤ P → P < 2 ^ 32 → b < 2 ^ 32 → n ≡ rounded_up b P
    → (n * C < 2 ^ 33) × (n * P < b + P)
from_fits {C} {P} {b} {n} positive le narrow small same =
    omega (arith, rw (← same) at (rounded_up_tight b P positive), mul-le-mul_left n le)
