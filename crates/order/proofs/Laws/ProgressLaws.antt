-- From every state that an order can reach and that is not complete some byte is a step: the running job may step,
-- and where none is active the job that arrived first, and of those that arrived together the one with the highest
-- base, may start.
-- Assumes nothing.
use Rattle.std.specs.Prelude.{◌≡◌, ◌⊎◌, ℕ, zero, suc, ◌+◌, ◌-◌, ◌*◌, ◌/◌, ◌%◌, ◌≤◌, ◌<◌, Bool, ◌&&◌, ◌||◌, length, get_or, eqb}
use Rattle.std.proofs.Math.Path.{refl, ap}
use Rattle.std.proofs.Common.{sym, subst, ◌∙◌}
use Rattle.std.proofs.Math.Logic.{inl, inr}
use Rattle.std.proofs.Math.Decide.{ℕ_discrete, dec_le}
use native.Mathlib.Omega.{arith}
use Rattle.std.proofs.Math.Bool.{true, false, not}
use mathlib.Core.List.{List, [], ◌∷◌}
use Rattle.std.proofs.Math.Option.{some, bind}
use borrow.Author.Tests.{eq-eqb, not-true, not-false}
use Rattle.taskfile.specs.Code.Choices.{lowest}
use Rattle.taskfile.proofs.Laws.JudgingLaws.{tasks_length}
use Rattle.std.specs.Prelude.{if◌then◌else◌}
use Rattle.notation.specs.Lists.{member, all, any, first_with}
use Rattle.notation.specs.Laws.TestLaws.{and_holds, test_decided, not_both}
use Rattle.timing.specs.declared.Job.{Job}
use Rattle.timing.specs.Accepted.{Accepted}
use Rattle.timing.proofs.Laws.RelationLaws.{before_raises}
use Rattle.timing.specs.Relations.{IsJob, base, before, job_at, job_numbers}
use Rattle.machine.specs.Instructions.{fresh, values}
use Rattle.machine.proofs.Laws.ValueLaws.{lowest_offered}
use Rattle.order.specs.declared.Frame.{Frame}
use Rattle.order.specs.Code.Invariant.{Invariant}
use Rattle.timing.proofs.Laws.JobFacts.{job_task}
use Rattle.order.specs.Orders.{Turn, start_of, turn_among, turn_of, next_of, performed, step_with, step}
use Rattle.timing.proofs.Laws.JobNumberLaws.{jobs_all, jobs_at, jobs_length}
use Rattle.timing.specs.Code.IsAccepted.{IsAccepted}
use Rattle.order.specs.States.{State, has_ended, is_active, all_ended, may_start}

-- ---- a turn is a step

-- a turn of task i with a value on offer is the step of the byte 16 × i + value
pub turn_step_lem : (a : Accepted) (s : State) (i v : ℕ) {turn : Turn} → turn_of a s i ≡ some turn → v < 16
    → member v (values (next_of a turn.frame)) ≡ true → step a s (16 * i + v) ≡ some (performed a s v turn)
unfolding step step_with bind
turn_step_lem a s i v due small offered =
    let task : (16 * i + v) / 16 ≡ i = omega arith in
    let value : (16 * i + v) % 16 ≡ v = omega arith in
    rw (task, value, due, offered)

-- the active job started last has the turn of its task
pub running_turn : (a : Accepted) (s : State) (f : Frame) (under : List Frame) → s.active ≡ f ∷ under
    → turn_of a s (base a f.job) ≡ some (record { frame = f; under = under })
unfolding turn_of turn_among
running_turn a s f under same =
    ap (turn_among a s (base a f.job)) same ∙ rw (eq-eqb (base a f.job) (base a f.job) refl) refl

-- the lowest value on offer makes a turn a step
lowest_step : {a : Accepted} → IsAccepted a → (s : State) (i : ℕ) {turn : Turn} → turn_of a s i ≡ some turn
    → (byte : ℕ) × (after : State) × (step a s byte ≡ some after)
unfolding next_of
lowest_step {a} ok s i {turn} due =
    let made = ok.is_made.choices (job_at a turn.frame.job).task turn.frame.local.next in
    let v = lowest (next_of a turn.frame) in
    (_, _, turn_step_lem a s i v due (omega (arith, made.some, made.few)) (lowest_offered (next_of a turn.frame) made))

-- ---- the least of some numbers

-- what holds below n and at n holds below n + 1
below_suc : (P : ℕ → Type 0) (n : ℕ) → ((k : ℕ) → k < n → P k) → P n → (k : ℕ) → k < suc n → P k
below_suc P n below here k lt = elim (ℕ_discrete k n) [ yes same ↦ subst P (sym same) here | no apart ↦ below k (omega arith) ]

-- of the numbers below n of which the test holds, one with the least measure
record Least (test : ℕ → Bool) (measure : ℕ → ℕ) (n : ℕ) : Type 0 where
  at : ℕ
  below : at < n
  holds : test at ≡ true
  least : (k : ℕ) → k < n → test k ≡ true → measure at ≤ measure k

module _ (test : ℕ → Bool) (measure : ℕ → ℕ) where
  -- the test holds of none, or there is a least
  least_of : (n : ℕ) → ((k : ℕ) → k < n → test k ≡ false) ⊎ Least test measure n
  least_of zero = inl (λ k lt. absurd (omega arith))
  least_of (suc n) = go (test_decided (test n)) (least_of n)
    where
      go : (test n ≡ true) ⊎ (test n ≡ false) → ((k : ℕ) → k < n → test k ≡ false) ⊎ Least test measure n
          → ((k : ℕ) → k < suc n → test k ≡ false) ⊎ Least test measure (suc n)
      go (inl here) (inl nowhere) =
          inr (record {
            at = n;
            below = omega arith;
            holds = here;
            least = below_suc (λ k. test k ≡ true → measure n ≤ measure k) n (λ k lt h. absurd (not_both (test k) h (nowhere k lt))) (λ h. omega arith);
          })
      go (inl here) (inr found) =
          inr (elim (dec_le (measure n) (measure found.at)) [
            | yes less ↦ record {
              at = n;
              below = omega arith;
              holds = here;
              least = below_suc (λ k. test k ≡ true → measure n ≤ measure k) n (λ k lt h. omega (arith, found.least k lt h)) (λ h. omega arith);
            }
            | no more ↦ record {
              at = found.at;
              below = omega arith;
              holds = found.holds;
              least = below_suc (λ k. test k ≡ true → measure found.at ≤ measure k) n found.least (λ h. omega arith);
            }
          ])
      go (inr other) (inl nowhere) = inl (below_suc (λ k. test k ≡ false) n nowhere other)
      go (inr other) (inr found) =
          inr (record {
            at = found.at;
            below = omega arith;
            holds = found.holds;
            least = below_suc (λ k. test k ≡ true → measure found.at ≤ measure k) n found.least (λ h. absurd (not_both (test n) h other));
          })

-- ---- a start

-- a test that holds of an element finds one
first_found : {A : Type 0} (test : A → Bool) (xs : List A) (k : ℕ) (d : A) → k < length xs → test (get_or xs k d) ≡ true
    → (y : A) × (first_with test xs ≡ some y)
unfolding first_with
first_found test [] k d lt h = absurd (omega arith)
first_found test (x ∷ xs) zero d lt h = (x, rw h refl)
first_found test (x ∷ xs) (suc k) d lt h = go (test x) (first_found test xs k d (omega arith) h)
  where
    go : (b : Bool) → (y : _) × (first_with test xs ≡ some y)
        → (y : _) × ((if b then some x else first_with test xs) ≡ some y)
    go true later = (x, refl)
    go false later = later

-- a job that may start is a turn of its task, or another of the same task is
start_found : (a : Accepted) (s : State) (y : Job) → IsJob a y → may_start a s y ≡ true
    → (turn : Turn) × (start_of a s (base a y) ≡ some turn)
unfolding start_of
start_found a s y isJob may =
    let test : Job → Bool = λ z. eqb (base a z) (base a y) && may_start a s z in
    let found = first_found test (job_numbers a) y.0 y (omega (arith, jobs_length a))
    (ap test (jobs_at a y y isJob) ∙ and_holds _ _ (eq-eqb (base a y) (base a y) refl) may) in
    (record { frame = record { job = found.0; local = fresh }; under = s.active }, rw found.1 refl)

-- a number that before raises: the arrival first, and at one arrival the lower base is the later
unfoldable lateness : Accepted → Job → ℕ
lateness a x = 8 * (job_at a x).arrival + (8 - base a x)

module _ {a : Accepted} (ok : IsAccepted a) where
  -- a base is below 8
  base_small : (x : Job) → IsJob a x → base a x < 8
  base_small x isJob = omega (arith, job_task ok.is_timed x isJob, tasks_length a.table ok.is_made.shaped, ok.is_made.shaped.tasks_within)

  before_later : (x y : Job) → IsJob a x → IsJob a y → before a x y ≡ true → lateness a x < lateness a y
  unfolding lateness
  before_later x y is_x isY h =
      let small = base_small x is_x in
      let low = base_small y isY in
      elim (before_raises ok.is_timed x y is_x isY h) [ inl raised ↦ omega arith | inr lowered ↦ omega arith ]

module _ {a : Accepted} (ok : IsAccepted a) (s : State) where
  -- where no job is active, the least late job that has not ended may start
  idle_start : s.active ≡ [] → (y : Job) → IsJob a y → has_ended s y ≡ false
      → ((x : Job) → IsJob a x → has_ended s x ≡ false → lateness a y ≤ lateness a x) → may_start a s y ≡ true
  unfolding may_start is_active any all has_ended
  idle_start idle y isJob unended least =
      rw (idle, unended)
      (and_holds _ _ (and_holds _ _ (jobs_all a (λ x. not (before a x y) || has_ended s x) preceded) refl) refl)
    where
      preceded : (x : Job) → IsJob a x → (not (before a x y) || has_ended s x) ≡ true
      preceded x is_x = go (before a x y) (has_ended s x) (λ b e. omega (arith, before_later ok x y is_x isJob b, least x is_x e))
        where
          go : (b e : Bool) → (b ≡ true → e ≡ false → ⊥) → (not b || e) ≡ true
          go true true h = refl
          go true false h = absurd (h refl refl)
          go false e h = refl

  -- a job that has not ended, and whose lateness is the least
  least_job : all_ended a s ≡ false
      → (y : Job) × IsJob a y × (has_ended s y ≡ false)
      × ((x : Job) → IsJob a x → has_ended s x ≡ false → lateness a y ≤ lateness a x)
  unfolding all_ended
  least_job undone =
      elim (least_of (λ n. not (has_ended s (record { 0 = n }))) (λ n. lateness a (record { 0 = n })) (length a.jobs)) [
        | inl nowhere ↦ absurd (not_both _ (jobs_all a (has_ended s) (λ x isJob. not-false _ (nowhere x.0 isJob))) undone)
        | inr found ↦ (
          record { 0 = found.at },
          found.below,
          not-true _ found.holds,
          λ x is_x e. found.least x.0 is_x (ap not e),
        )
      ]

  -- whose turn it may be
  turn_found : (active : List Frame) → s.active ≡ active → all_ended a s ≡ false
      → (i : ℕ) × (turn : Turn) × (turn_of a s i ≡ some turn)
  unfolding turn_of turn_among
  turn_found [] idle undone =
      let job = least_job undone in
      let found = start_found a s job.0 job.1 (idle_start idle job.0 job.1 job.2 job.3) in
      (base a job.0, found.0, ap (turn_among a s (base a job.0)) idle ∙ found.1)
  turn_found (f ∷ under) same undone =
      (base a f.job, record { frame = f; under = under }, running_turn a s f under same)

-- from every state that is not complete some byte is a step
pub state_progresses : {a : Accepted} → IsAccepted a → {s : State} → Invariant a s → all_ended a s ≡ false
    → (byte : ℕ) × (after : State) × (step a s byte ≡ some after)
state_progresses {a} ok {s} inv undone =
    let found = turn_found ok s s.active refl undone in
    lowest_step ok s found.0 found.2
