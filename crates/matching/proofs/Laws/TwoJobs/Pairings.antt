-- Two jobs of an order so far: what holds of the rounds of their steps, by which of the two has begun, is active or
-- has ended. When all jobs have ended this is what makes a plan legal.
-- Assumes nothing.
use Rattle.std.specs.Prelude.{◌≡◌, ℕ, ◌≤◌, ◌<◌, true, List, map, ◌⊎◌, length, get_or, leb}
use Rattle.notation.specs.Lists.{only, first_or, last_or}
use Rattle.timing.specs.declared.Job.{Job}
use Rattle.timing.specs.Accepted.{Accepted}
use Rattle.timing.specs.Relations.{base, before, may_preempt, IsJob}
use Rattle.order.specs.declared.Frame.{Frame}
use Rattle.order.specs.Code.Invariant.{has_begun}
use Rattle.order.specs.States.{State, has_ended, is_active, present_priority}
use Rattle.plan.specs.Runs.{Step}

-- each job's steps so far, by number
abbrev pub Made : Type 0
Made = ℕ → List Step

unfoldable pub made_rounds : Made → Job → List ℕ
made_rounds made x = map (λ step. step.round.0) (made x.0)

unfoldable pub first : Made → Job → ℕ
first made x = first_or 0 (made_rounds made x)

unfoldable pub last : Made → Job → ℕ
last made x = last_or 0 (made_rounds made x)

-- a job's priority after its steps up to round r, and after all of them
unfoldable pub priority_up_to : Accepted → Made → Job → ℕ → ℕ
priority_up_to a made x r =
    last_or (base a x) (map (λ step. step.priority_after) (only (λ step. leb step.round.0 r) (made x.0)))

unfoldable pub priority_now : Accepted → Made → Job → ℕ
priority_now a made x = last_or (base a x) (map (λ step. step.priority_after) (made x.0))

-- no step of x is in a round after y's first, up to y's last
abbrev pub Clear : Made → Job → Job → Type 0
Clear made x y =
    (k : ℕ) → k < length (made_rounds made x) → (get_or (made_rounds made x) k 0 ≤ first made y) ⊎ (last made y < get_or (made_rounds made x) k 0)

-- y's steps lie inside x, which was not above y's base when y started
pub record Inside (a : Accepted) (made : Made) (y x : Job) : Type 0 where
  pub starts : first made x ≤ first made y
  pub clear : Clear made x y
  pub unlocked : priority_up_to a made x (first made y) < base a y

-- in round r
pub record Paired (a : Accepted) (s : State) (r : ℕ) (made : Made) : Type 0 where
  -- a job that has begun has steps, with rounds that rise up to this one, and one that has ended made its last in an
  -- earlier round
  pub none_yet : (x : Job) → IsJob a x → 0 < length (made x.0) → has_begun s x ≡ true
  pub some_made : (x : Job) → IsJob a x → has_begun s x ≡ true → 0 < length (made x.0)
  pub rising : (x : Job) (k : ℕ) → IsJob a x → k < length (made_rounds made x)
      → (first made x ≤ get_or (made_rounds made x) k 0) × (get_or (made_rounds made x) k 0 ≤ last made x)
  pub within : (x : Job) → IsJob a x → last made x ≤ r
  pub closed : (x : Job) → IsJob a x → has_ended s x ≡ true → last made x < r
  -- an active job's priority is that after its last step
  pub priorities : (k : ℕ) (d : Frame) → k < length s.active
      → priority_now a made (get_or s.active k d).job ≡ present_priority a (get_or s.active k d)
  -- x comes before y
  pub preceding : (x y : Job) → IsJob a x → IsJob a y → before a x y ≡ true → has_begun s y ≡ true
      → last made x < first made y
  -- y may preempt x
  pub both_ended : (x y : Job) → IsJob a x → IsJob a y → may_preempt a y x ≡ true → has_ended s x ≡ true
      → has_ended s y ≡ true
      → (last made x < first made y) ⊎ (last made y < first made x)
      ⊎ (Inside a made y x × (last made y < last made x))
  pub lower_ended : (x y : Job) → IsJob a x → IsJob a y → may_preempt a y x ≡ true → has_ended s x ≡ true
      → is_active s y ≡ true → last made x < first made y
  pub higher_ended : (x y : Job) → IsJob a x → IsJob a y → may_preempt a y x ≡ true → is_active s x ≡ true
      → has_ended s y ≡ true → (last made y < first made x) ⊎ Inside a made y x
  pub both_active : (x y : Job) → IsJob a x → IsJob a y → may_preempt a y x ≡ true → is_active s x ≡ true
      → is_active s y ≡ true
      → (first made x ≤ first made y) × (last made x ≤ first made y) × (priority_now a made x < base a y)
