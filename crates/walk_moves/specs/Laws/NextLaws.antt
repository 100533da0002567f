-- Laws of the next step: which bytes of a task whose turn is known are steps, and how parts of a search are joined.
-- Assumes nothing.
use Rattle.std.specs.Prelude.{Option, Some, None, ◌≡◌, refl, ℕ, ◌+◌, ◌*◌, ◌/◌, ◌%◌, ◌≤◌, ◌<◌, Bool, true, false, List}
use Rattle.std.proofs.Common.{sym, ap, subst, ◌∙◌, arith}
use Rattle.std.proofs.Math.Decide.{dec_lt}
use Rattle.taskfile.specs.declared.Ceilings.{Ceilings}
use Rattle.taskfile.specs.declared.Instruction.{Instruction}
use Rattle.std.specs.Prelude.{if◌then◌else◌}
use Rattle.order_states.specs.declared.Due.{Due}
use Rattle.order.specs.declared.Frame.{Frame}
use Rattle.order_states.specs.Code.Snapshots.{Snapshot, Stepped}
use Rattle.order_states.specs.Code.SnapshotSteps.{instruction_in, turn_in, step_with_in, step_in, offered_in}
use Rattle.order_states.proofs.Laws.TurnLaws.{step_none, step_due}
use Rattle.walk_moves.specs.Laws.OfferLaws.{FirstOf, past_offered, first_offered}
use Rattle.walk_moves.specs.Code.MoveParts.{FoundBelow, NoStep, NextStep, StepOf, first_from}

-- ---- what is found

-- what is found serves where its fact leads to another
pub found_mapped : (limit : ℕ) {P Q : ℕ → Type 0} → ((m : ℕ) → P m → Q m) → (o : Option ℕ) → FoundBelow limit P o
    → FoundBelow limit Q o
found_mapped limit leads None found = leads limit found
found_mapped limit leads (Some m) found = (found.0, leads m found.1)

-- ---- a step

-- of a step that is allowed and one that is not, a test chooses the first exactly if it holds
chosen : (b : Bool) (r s : Stepped) → r.allowed ≡ true → s.allowed ≡ false
    → (if◌then◌else◌ {A = Stepped} b r s).allowed ≡ b
chosen true r s h k = h
chosen false r s h k = k

-- a step is allowed exactly if its value is on offer
with_allowed : (program : List ℕ) (f : Frame) (i : ℕ) (p : Snapshot) (under v : ℕ)
    → (step_with_in program p f under i v).allowed ≡ offered_in program f i v
unfolding step_with_in
with_allowed program f i p under v = chosen (offered_in program f i v) _ _ refl refl

-- ---- the bytes of a task

module _ (program waits : List ℕ) (locks : Ceilings) (p : Snapshot) (i : ℕ) where
  -- the task's bytes have the same turn
  turn_at : {o : Option Due} → o ≡ turn_in program waits locks p i → (k : ℕ) → k / 16 ≡ i
      → o ≡ turn_in program waits locks p (k / 16)
  turn_at is k e = is ∙ ap (turn_in program waits locks p) (sym e)

  -- where nobody is due, no byte of the task is a step
  pub idle_refused : None ≡ turn_in program waits locks p i → (k : ℕ) → k / 16 ≡ i
      → (step_in program waits locks p k).allowed ≡ false
  idle_refused is k e = ap (λ (r : Stepped). r.allowed) (sym (step_none program waits locks p k (turn_at is k e)))

  pub idle_none : None ≡ turn_in program waits locks p i → NoStep program waits locks p (16 * i) (16 * (i + 1))
  idle_none is k low high = idle_refused is k (omega arith)

module _ (program waits : List ℕ) (locks : Ceilings) (p : Snapshot) (i : ℕ) {d : Due}
    (is : Some d ≡ turn_in program waits locks p i) where
  -- else a byte is a step if its value is on offer
  pub due_allowed : (k : ℕ) → k / 16 ≡ i
      → (step_in program waits locks p k).allowed ≡ offered_in program d.frame i (k % 16)
  due_allowed k e =
      ap (λ (r : Stepped). r.allowed) (sym (step_due program waits locks p k (turn_at program waits locks p i is k e) refl))
      ∙ with_allowed program d.frame (k / 16) p d.under (k % 16)
      ∙ ap (λ (n : ℕ). offered_in program d.frame n (k % 16)) e

  -- none is where the job that is due stands past its body
  past_none : (v : ℕ) → 16 ≤ d.frame.local.next → NoStep program waits locks p (16 * i + v) (16 * (i + 1))
  past_none v past k low high =
      due_allowed k (omega arith) ∙ past_offered program d.frame i (k % 16) past

  module _ (inside : d.frame.local.next < 16) {o : Instruction}
      (read : o ≡ instruction_in program i d.frame.local.next) (v : ℕ) {w : ℕ} (first : w ≡ first_from o v) where
    value : FirstOf (λ n. offered_in program d.frame i n) v w
    value = subst (FirstOf _ v) (sym first) (first_offered program d.frame i read inside v)

    -- no byte from the value v on is a step where none of these values is on offer
    refused_none : 16 ≤ w → NoStep program waits locks p (16 * i + v) (16 * (i + 1))
    refused_none none k low high =
        due_allowed k (omega arith) ∙ value.none_before (k % 16) (omega arith) (omega arith)

    -- and where one is, the step with the first of them comes next
    found_next : i < 8 → w < 16 → NextStep program waits locks p (16 * i + v) (16 * i + w)
    found_next small some =
        let task : (16 * i + w) / 16 ≡ i = omega arith in
        let kept : (16 * i + w) % 16 ≡ w = omega arith in
        record {
          none_before = λ k low high.
              due_allowed k (omega arith) ∙ value.none_before (k % 16) (omega arith) (omega arith);
          ahead = omega (arith, value.ahead some);
          below = omega arith;
          allowed = λ _. due_allowed (16 * i + w) task ∙ rw kept (value.held some);
        }

-- ---- the first byte of a task, by the position of its job

module _ (program : List ℕ) (i position v : ℕ) where
  -- none is a step where the job stands past its body
  pub of_past : 16 ≤ position → StepOf program i position v 128
  of_past past waits locks p d is at =
      (λ lt. absurd (omega arith), λ _. past_none program waits locks p i is v (omega (arith, at)))

  module _ (inside : position < 16) {o : Instruction} (read : o ≡ instruction_in program i position) {w : ℕ}
      (first : w ≡ first_from o v) where
    read_at : (n : ℕ) → position ≡ n → o ≡ instruction_in program i n
    read_at n at = read ∙ ap (instruction_in program i) at

    -- nor where no value from v on is on offer
    pub of_refused : 16 ≤ w → StepOf program i position v 128
    of_refused none waits locks p d is at = (
      λ lt. absurd (omega arith),
      λ _. refused_none program waits locks p i is (omega (arith, at)) (read_at _ at) v first none,
    )

    -- else the step with the first such value is
    pub of_found : i < 8 → w < 16 → StepOf program i position v (16 * i + w)
    of_found small some waits locks p d is at = (
      λ _. found_next program waits locks p i is (omega (arith, at)) (read_at _ at) v first small some,
      λ high. absurd (omega arith),
    )

-- ---- parts that are joined

module _ (program waits : List ℕ) (locks : Ceilings) (p : Snapshot) (first mid : ℕ)
    (before : NoStep program waits locks p first mid) where
  -- no step up to a byte, and none from there on
  pub none_joined : (last : ℕ) → NoStep program waits locks p mid last → NoStep program waits locks p first last
  none_joined last after k low high =
      elim (dec_lt k mid) [
        | yes lt ↦ before k low lt
        | no ge ↦ let le : mid ≤ k = omega arith in after k le high
      ]

  -- no step up to a byte, and the next step from there on
  pub next_joined : first ≤ mid → {m : ℕ} → NextStep program waits locks p mid m
      → NextStep program waits locks p first m
  next_joined low {m} next =
      record {
        none_before = none_joined m next.none_before;
        ahead = omega (arith, next.ahead);
        below = next.below;
        allowed = next.allowed;
      }

-- no step up to the last byte
pub next_none : (program waits : List ℕ) (locks : Ceilings) (p : Snapshot) (first last : ℕ) → first ≤ 128
    → NoStep program waits locks p first last → 128 ≤ last → NextStep program waits locks p first 128
next_none program waits locks p first last low before high =
    record {
      none_before = λ k le lt. before k le (omega arith);
      ahead = low;
      below = omega arith;
      allowed = λ lt. absurd (omega arith);
    }
