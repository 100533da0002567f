-- Laws of the utilisation that tasks need: two utilisations are added over a common whole, exactly or rounded
-- down, and each task above adds its own, since C × R ≤ C × P × ceil(R / P).
-- Assumes nothing.
use Rattle.std.specs.Prelude.{◌≡◌, ℕ, ◌+◌, ◌-◌, ◌*◌, ◌/◌, ◌^◌, ◌≤◌, ◌<◌, drop}
use Rattle.std.proofs.Common.{ap, mul-le-mul_left, mul-le-mul_right, le_of_mul-le-mul_right, le-mul_of_pos_right}
use Rattle.std.proofs.Common.{div-le_self, div-mul-le_self, le-div_iff_mul-le, add-one, arith}
use Rattle.std.specs.Int.{◌∣◌}
use Rattle.std.proofs.Math.Nat.{one-le-mul, div-le_of_le-mul, mul-div-le, le_of_dvd, mul-div_cancel'}
use Rattle.taskfile.specs.declared.Table.{Table}
use Rattle.taskfile.specs.declared.Task.{Task}
use Rattle.taskfile.specs.Tables.{tasks_of}
use Rattle.taskfile.specs.Judgement.{numbered}
use Rattle.timing.specs.declared.Utilisation.{Utilisation}
use Rattle.timing.specs.Response.{rounded_up, tasks_above, interference}
use Rattle.timing.proofs.Laws.ResponseLaws.{rounded_up_covers, rounded_up_below, rounded_up_positive}
use Rattle.timing.specs.Code.ResponseParts.{Timeable, SumFits, WithTask, UtilisationOf}
use Rattle.timing.proofs.Laws.TimeableLaws.{TimesRead, interference_next}

-- ---- adding one task's utilisation

-- n of d and c of p over the common whole d × a
pub sum_exact : (n d c p a b : ℕ) → d * a ≡ p * b → (n * a + c * b) * (d * p) ≤ (n * p + c * d) * (d * a)
sum_exact n d c p a b e = omega (arith, ap (λ (x : ℕ). c * d * x) e)

-- n of d and c of p in w parts of u each, both rounded down
pub sum_rounded : (n d c p u w x y : ℕ) → x * u ≤ n → d ≤ w * u → y * p ≤ c * w
    → (x + y) * (d * p) ≤ (n * p + c * d) * w
sum_rounded n d c p u w x y first parts second =
    omega (arith, mul-le-mul_left (x * p) parts, mul-le-mul_right (w * p) first, mul-le-mul_right d second)

-- d parts in w of u each, of which there are at most m: as few units as may be, and as few parts of such units
pub record Grouped (d m u w : ℕ) : Type 0 where
  pub unit : 1 ≤ u
  pub positive : 1 ≤ w
  pub all : d ≤ w * u
  pub few : w ≤ d
  pub room : w ≤ m

pub quotient_grouped : (d m : ℕ) {u w : ℕ} → 1 ≤ d → 1 ≤ m → u ≡ rounded_up d m → w ≡ rounded_up d u → Grouped d m u w
quotient_grouped d m {u} {w} some more eu ew =
    let unit : 1 ≤ u = rw eu (rounded_up_positive d m some) in
    let enough : d ≤ u * m = rw eu (rounded_up_covers d m more) in
    let under : (k : ℕ) → k < w → k * u < d = λ k l. (rounded_up_below d u k unit).0 (rw ew at l) in
    let fewer : d < w → ⊥ = λ l. omega (arith, under d l, le-mul_of_pos_right d unit) in
    let fits : m < w → ⊥ = λ l. omega (arith, under m l) in
    record {
      unit = unit;
      positive = rw ew (rounded_up_positive d u some);
      all = rw ew (rounded_up_covers d u unit);
      few = omega arith;
      room = omega arith;
    }

module _ {s : Utilisation} {c p cap : ℕ} (fits : SumFits s c p cap) where
  module _ {u w : ℕ} (group : Grouped s.whole ((2 ^ 64 - 1) / c) u w) where
    -- the rounded sum can be worked out
    pub rounded_product : c * w < 2 ^ 64
    rounded_product = omega (arith, mul-le-mul_left c group.room, mul-div-le (2 ^ 64 - 1) c)

    pub rounded_fits : s.part / u + c * w / p < 2 ^ 64
    rounded_fits = omega (arith, div-le_self s.part u, div-le_of_le-mul p (mul-le-mul_right w fits.within))

    -- and is no more than the two utilisations
    pub rounded_most : WithTask s c p cap (record { part = s.part / u + c * w / p; whole = w })
    rounded_most = record {
      positive = group.positive;
      few = omega arith;
      most = sum_rounded s.part s.whole c p u w (s.part / u) (c * w / p) (div-mul-le_self s.part u) group.all (div-mul-le_self (c * w) p);
    }

  module _ {g : ℕ} (positive : 1 ≤ g) (first : g ∣ s.whole) (second : g ∣ p) where
    -- the period is a multiple of the divisor, not 0 times it
    pub times_positive : 1 ≤ p / g
    times_positive = (le-div_iff_mul-le positive).1 (omega (arith, le_of_dvd (omega arith) second))

    -- the common whole is a multiple of both
    common_whole : s.whole * (p / g) ≡ p * (s.whole / g)
    common_whole =
        let d = s.whole / g in
        let q = p / g in
        let whole : g * d ≡ s.whole = mul-div_cancel' g first in
        let period : g * q ≡ p = mul-div_cancel' g second in
        omega (arith, ap (λ (x : ℕ). x * q) whole, ap (λ (x : ℕ). x * d) period)

    module _ (room : s.whole ≤ cap / (p / g)) where
      whole_few : s.whole * (p / g) ≤ cap
      whole_few = (le-div_iff_mul-le times_positive).0 room

      -- the exact sum can be worked out
      pub exact_ranges : (s.part * (p / g) ≤ cap) × (c * (s.whole / g) ≤ cap) × (s.whole * (p / g) ≤ cap)
      exact_ranges = (
        omega (arith, whole_few, mul-le-mul_right {m = s.part} {n = s.whole} (p / g) (omega arith)),
        omega (arith, whole_few, common_whole, mul-le-mul_right (s.whole / g) fits.within),
        whole_few,
      )

      -- and is no more than the two utilisations
      pub exact_most : WithTask s c p cap
          (record { part = s.part * (p / g) + c * (s.whole / g); whole = s.whole * (p / g) })
      exact_most = record {
        positive = one-le-mul (omega arith) times_positive;
        few = whole_few;
        most = sum_exact s.part s.whole c p (p / g) (s.whole / g) common_whole;
      }

-- ---- the tasks above, one by one

-- a utilisation in at most cap parts that the tasks from task j on need at least without those from task k on
pub record UtilisationBefore (t : Table) (j k cap : ℕ) (s : Utilisation) : Type 0 where
  pub positive : 1 ≤ s.whole
  pub few : s.whole ≤ cap
  pub needed : (R : ℕ) → R * s.part + interference (drop k (tasks_of t)) R * s.whole
      ≤ interference (drop j (tasks_of t)) R * s.whole

-- before the first of them, nothing is needed
pub utilisation_none : (t : Table) (j : ℕ) {cap : ℕ} → 1 ≤ cap → UtilisationBefore t j j cap (record { part = 0; whole = 1 })
utilisation_none t j h = record { positive = omega arith; few = h; needed = λ R. omega arith }

-- what those passed need, all tasks above task i need
pub utilisation_found : {t : Table} (i : Task) {k cap : ℕ} {s : Utilisation} → UtilisationBefore t (i.0 + 1) k cap s
    → UtilisationOf (tasks_above t i) cap s
unfolding tasks_above
utilisation_found i share = record { positive = share.positive; few = share.few; needed = λ R. rw (← add-one i.0) (omega (arith, share.needed R)) }

-- one task more: what was covered by n of d stays covered by m of w, which is at most n of d and c of p
covered_more : (R n d c p m w u J I : ℕ) → 1 ≤ d → 1 ≤ p → R ≤ u * p → m * (d * p) ≤ (n * p + c * d) * w
    → R * n + (u * c + J) * d ≤ I * d → R * m + J * w ≤ I * w
covered_more R n d c p m w u J I some positive long most covered =
    le_of_mul-le-mul_right {k = d * p}
    (omega (arith, mul-le-mul_left R most, mul-le-mul_right (p * w) covered, mul-le-mul_right (c * d * w) long))
    (one-le-mul some positive)

pub utilisation_more : {t : Table} {j k C P cap : ℕ} {s r : Utilisation} → Timeable t → k < t.tasks → TimesRead t (numbered k) C P
    → UtilisationBefore t j k cap s → WithTask s C P cap r → UtilisationBefore t j (k + 1) cap r
utilisation_more {t} {j} {k} {C} {P} {cap} {s} {r} timeable lt read share more = record {
  positive = more.positive;
  few = more.few;
  needed = λ R.
      covered_more R s.part s.whole C P r.part r.whole (rounded_up R P) _ _ share.positive (omega arith)
      (rounded_up_covers R P (omega arith)) more.most (rw (interference_next timeable k R lt read) at (share.needed R));
}
