-- Laws of what is kept of the tasks' quotients: nothing at first, still kept for a longer interval, right as long as
-- the kept periods reach the interval's end, and replaced for one task, by one period more or by all that begin.
-- Assumes nothing.
use Rattle.std.specs.Prelude.{◌≡◌, refl, ℕ, ◌+◌, ◌*◌, ◌^◌, ◌≤◌, ◌<◌, List, get_or, set, replicate}
use Rattle.std.proofs.Common.{sym, ap, ◌∙◌, zero-le, le_trans, zero-mul, add-mul, mul-le-mul_left, mul-le-mul_right}
use Rattle.std.proofs.Common.{arith, length-set, get_or-set_same, get_or-set_other}
use Rattle.std.proofs.Math.Decide.{ℕ_discrete}
use Rattle.std.proofs.lemmas.List.{get_or-replicate}
use Rattle.timing.specs.declared.Timing.{Timing}
use Rattle.timing.specs.Response.{rounded_up}
use Rattle.timing.proofs.Laws.ResponseLaws.{rounded_up_below, rounded_up_mono, rounded_up_tight}
use Rattle.timing.specs.Code.BoundedTimes.{no_timing, BoundedTimes}
use Rattle.timing_iteration.specs.declared.quotients.Quotient.{Quotient}
use Rattle.timing_iteration.specs.Code.Kept.{no_quotient, KeptPeriods, Kept}

-- of an interval of length 0 no period is kept
pub kept_none : (xs : List Timing) (n r : ℕ) → n ≤ 8 → Kept xs n r (replicate 8 no_quotient)
kept_none xs n r few =
    record {
      full = refl;
      held = λ k lt.
          let nothing : get_or (replicate 8 no_quotient) k no_quotient ≡ no_quotient =
          get_or-replicate 8 k no_quotient no_quotient (omega arith) in
          rw nothing (record { periods = 0; most = zero-le; ends = sym (zero-mul _); busy = sym (zero-mul _) });
    }

-- what is kept for an interval is kept for a longer one
pub kept_longer : {xs : List Timing} {n r s : ℕ} {kept : List Quotient} → Kept xs n r kept → r ≤ s → Kept xs n s kept
kept_longer {xs} kept longer =
    record {
      full = kept.full;
      held = λ k lt.
          let own = kept.held k lt in
          record {
            periods = own.periods;
            most = le_trans own.most (rounded_up_mono (get_or xs k no_timing).period longer);
            ends = own.ends;
            busy = own.busy;
          };
    }

-- periods that reach the interval's end are all that begin in it
pub kept_right : {x : Timing} {r : ℕ} {q : Quotient} → KeptPeriods x r q → 1 ≤ x.period → r ≤ q.end
    → q.busy ≡ rounded_up r x.period * x.execution
kept_right {x} {r} own positive reached =
    let short = (rounded_up_below r x.period own.periods positive).0 in
    let over : own.periods < rounded_up r x.period → ⊥ = λ l. omega (arith, short l, own.ends) in
    let same : own.periods ≡ rounded_up r x.period = omega (arith, own.most) in
    own.busy ∙ ap (λ (n : ℕ). n * x.execution) same

-- the periods of one task are replaced
pub kept_set : {xs : List Timing} {n r : ℕ} {kept : List Quotient} → Kept xs n r kept → n ≤ 8 → (k : ℕ) → k < n
    → {q : Quotient} → KeptPeriods (get_or xs k no_timing) r q → Kept xs n r (set kept k q)
kept_set {kept = qs} kept few k lt {q} own =
    let here = get_or-set_same qs k q no_quotient (omega (arith, kept.full)) in
    record {
      full = length-set qs k _ ∙ kept.full;
      held = λ j l.
          elim (ℕ_discrete j k) [
            | yes same ↦ rw (same, here) own
            | no other ↦ rw (get_or-set_other qs k j q no_quotient other) (kept.held j l)
          ];
    }

-- ---- one task's turn

-- what is kept of a task is of all its periods that begin in the interval
pub record Reached (x : Timing) (r : ℕ) (q : Quotient) : Type 0 where
  pub kept : KeptPeriods x r q
  pub right : q.busy ≡ rounded_up r x.period * x.execution

module _ {xs : List Timing} {n : ℕ} (bounded : BoundedTimes xs n) (k : ℕ) (lt : k < n) where
  -- what task k asks
  abbrev asked : Timing
  asked = get_or xs k no_timing

  -- its period is positive
  positive : 1 ≤ asked.period
  positive = omega (arith, bounded.positive k lt, bounded.within k lt)

  -- the kept periods reach the interval's end
  pub reached_kept : {r : ℕ} {q : Quotient} → KeptPeriods asked r q → r ≤ q.end → Reached asked r q
  reached_kept own far = record { kept = own; right = kept_right own positive far }

  -- or they are renewed
  pub reached_anew : {r u : ℕ} → u ≡ rounded_up r asked.period
      → Reached asked r (record { end = u * asked.period; busy = u * asked.execution })
  reached_anew {r} {u} q =
      record {
        kept = record { periods = u; most = rw q (omega arith); ends = refl; busy = refl };
        right = ap (λ (x : ℕ). x * asked.execution) q;
      }

  -- where renewed periods end fits
  pub ends_fit : (r : ℕ) {u : ℕ} → r < 2 ^ 32 → u ≡ rounded_up r asked.period → u * asked.period < 2 ^ 33
  ends_fit r small q = omega (arith, bounded.narrow k lt, rw (← q) at (rounded_up_tight r asked.period positive))

  -- one period more, if those that are kept end before r
  pub kept_more : {r u : ℕ} {q : Quotient} → KeptPeriods asked r q → u ≤ 1 → (1 ≤ u → q.end < r)
      → KeptPeriods asked r (record { end = q.end + u * asked.period; busy = q.busy + u * asked.execution })
  kept_more {r} {u} own few past =
      let q = own.periods in
      let P = asked.period in
      let next : 1 ≤ u → q < rounded_up r P = λ l. (rounded_up_below r P q positive).1 (omega (arith, past l, own.ends)) in
      record {
        periods = q + u;
        most =
            elim (ℕ_discrete u 0) [
              | yes same ↦ omega (arith, own.most)
              | no other ↦ omega (arith, next (omega arith))
            ];
        ends = omega (arith, own.ends, add-mul q u P);
        busy = omega (arith, own.busy, add-mul q u asked.execution);
      }

  -- and with it they fit
  pub more_fits : {r u : ℕ} {q : Quotient} → KeptPeriods asked r q → r < 2 ^ 32 → u ≤ 1
      → (q.end + u * asked.period < 2 ^ 34) × (q.busy + u * asked.execution < 2 ^ 34)
  more_fits {r} {u} own small few =
      let P = asked.period in
      let C = asked.execution in
      let within = bounded.within k lt in
      let narrow = bounded.narrow k lt in
      let all = mul-le-mul_right P own.most in
      let tight = rounded_up_tight r P positive in (
        omega (arith, own.ends, all, tight, narrow, mul-le-mul_right {m = u} {n = 1} P few),
        omega (arith, own.busy, all, tight, narrow, within, mul-le-mul_left own.periods within, mul-le-mul_right {m = u} {n = 1} C few),
      )
