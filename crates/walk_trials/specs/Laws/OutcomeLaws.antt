-- Laws of the outcomes of a walk: a complete order fails if a job has, what a walk comes to, and what that answers and
-- shows.
-- Assumes nothing.
use Rattle.std.specs.Prelude.{◌≡◌, ℕ, ◌≤◌, Bool, true, false, List, replicate}
use Rattle.std.proofs.Math.Path.{refl}
use Rattle.std.proofs.Common.{sym, ◌∙◌, arith}
use Rattle.machine.specs.Ends.{no_store, no_flags}
use Rattle.machine.specs.declared.End.{End}
use Rattle.walk.specs.declared.Verdict.TheVariants.{Holds, Fails}
use Rattle.walk.specs.WalkEntry.{refusal}
use Rattle.notation.specs.Lists.{any, bytes_at}
use Rattle.order_states.specs.Code.StateBytes.{snapshot_in}
use Rattle.walk_trials.specs.Code.Outcomes.{end_in, ended_at, outcome_of, Short, answer_of, shown_length}
use Rattle.order_states.specs.Code.Snapshots.{Snapshot}
use Rattle.walk_trials.specs.declared.Outcome.{Outcome}
use Rattle.walk_trials.specs.declared.Outcome.TheVariants.{Stopped, Held, Found}
use Rattle.walk_trials.specs.declared.Trial as trying

-- ---- a complete order, by whether a job failed

module _ (p : Snapshot) (at : ℕ) {b : Bool} (e : b ≡ any (λ flag. flag) p.failed) where
  pub ended_failed : b ≡ true → trying.TheVariants.Found at ≡ ended_at p at
  unfolding ended_at
  ended_failed h = rw (sym e ∙ h) refl

  pub ended_held : b ≡ false → trying.TheVariants.Held ≡ ended_at p at
  unfolding ended_at
  ended_held h = rw (sym e ∙ h) refl

-- ---- what a walk comes to

-- an order found ends as is read from the bytes of the state that it left
pub outcome_read : (bytes : List ℕ) (length count : ℕ) {store : List ℕ} {failed : List Bool}
    → store ≡ bytes_at bytes 0 8 → failed ≡ (snapshot_in bytes).failed
    → Found count length (record { store = store; failed = failed })
    ≡ outcome_of (trying.TheVariants.Found length) count (snapshot_in bytes)
unfolding snapshot_in
outcome_read bytes length count stored flags =
    λ t. Found count length (record { store = stored t; failed = flags t })

-- the end that is read from the bytes of a state is its snapshot's
pub end_read : (bytes : List ℕ) {store : List ℕ} {failed : List Bool} → store ≡ bytes_at bytes 0 8
    → failed ≡ (snapshot_in bytes).failed → record { store = store; failed = failed } ≡ end_in (snapshot_in bytes)
unfolding snapshot_in
end_read bytes stored flags = λ t. record { store = stored t; failed = flags t }

-- ---- the three answers

pub answer_stopped : (r : Outcome) → r ≡ Stopped → refusal 21 0 ≡ answer_of r
unfolding answer_of
answer_stopped r e = rw e refl

pub answer_found : (r : Outcome) {count length : ℕ} {end : End} → r ≡ Found count length end
    → record {
      number = 0;
      place = 0;
      verdict = Fails;
      count = count;
      length = length;
      store = end.store;
      failed = end.failed;
    } ≡ answer_of r
unfolding answer_of
answer_found r e = rw e refl

pub answer_held : (r : Outcome) {count : ℕ} → r ≡ Held count
    → record {
      number = 0;
      place = 0;
      verdict = Holds;
      count = count;
      length = 0;
      store = replicate 8 0;
      failed = replicate 32 false;
    } ≡ answer_of r
unfolding answer_of no_store no_flags
answer_held r e = rw e refl

pub length_found : (r : Outcome) {count length : ℕ} {end : End} → r ≡ Found count length end → length ≡ shown_length r
unfolding shown_length
length_found r e = rw e refl

-- nothing is shown where no order was found
pub length_none : (r : Outcome) → ((count length : ℕ) (end : End) → r ≡ Found count length end → ⊥)
    → 0 ≡ shown_length r
unfolding shown_length
length_none Stopped other = refl
length_none (Held count) other = refl
length_none (Found count length end) other = absurd (other count length end refl)

-- an order that can be shown fits an answer
pub short_shown : (r : Outcome) → shown_length r ≤ 512 → Short r
unfolding shown_length
short_shown Stopped le = tt
short_shown (Held count) le = tt
short_shown (Found count length end) le = omega arith
