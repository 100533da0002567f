-- What the check of a step's two bytes says: it passes, and then the bytes are there and the round is one of k; or it
-- refuses.
-- Assumes nothing.
use Rattle.std.specs.Prelude.{◌≡◌, refl, ℕ, ◌+◌, ◌≤◌, ◌<◌, Bool, true, false, ◌&&◌, length, ltb, Ok, Err}
use Rattle.std.proofs.Common.{sym, arith, ltb-true, ltb-false}
use Rattle.notation.specs.Checked.{Checked, refused, passed, require, ◌>>◌}
use Rattle.notation.specs.Laws.TestLaws.{and_both}
use Rattle.taskfile.specs.Code.Refusals.{outcome, number_of}
use Rattle.taskfile.specs.declared.Instruction.{Instruction}
use Rattle.taskfile.specs.declared.refusals.Refused.{Refused}
use Rattle.plan.specs.declared.Round.{Round}
use Rattle.plan.specs.Runs.{Plan, not_later, round_at, step_bytes_for}

-- three tests in turn: where the check passes, the first two hold
record Tried (p q : Bool) (c : Checked ℕ (Unit {0})) : Type 0 where
  passes : c ≡ passed tt → (p ≡ true) × (q ≡ true)

tried : (p q t : Bool) (a b d : ℕ)
    → Tried p q (◌>>◌ (require p 40 a) (◌>>◌ (require q 42 b) (require t 41 d)))
unfolding require ◌>>◌
tried true true t a b d = record { passes = λ clear. (refl, refl) }
tried true false t a b d = record { passes = λ clash. cc }
tried false q t a b d = record { passes = λ clash. cc }

-- and where it refuses, at one of these places
record Near (most : ℕ) (c : Checked ℕ (Unit {0})) : Type 0 where
  near : {number place : ℕ} → c ≡ refused number place → place ≤ most

near_one : (p q t : Bool) (a b d most : ℕ) → (p ≡ false → a ≤ most) → b ≤ most → d ≤ most
    → Near most (◌>>◌ (require p 40 a) (◌>>◌ (require q 42 b) (require t 41 d)))
unfolding require ◌>>◌
near_one true true true a b d most short low high = record { near = λ clash. let z : ◌≡◌ {A = ℕ} 0 1 = cc in omega arith }
near_one true true false a b d most short low high =
    record { near = λ {number} {place} same. let at : d ≡ place = cc in omega arith }
near_one true false t a b d most short low high =
    record { near = λ {number} {place} same. let at : b ≡ place = cc in omega arith }
near_one false q t a b d most short low high =
    record { near = λ {number} {place} same. let at : a ≡ place = cc in omega (arith, short refl) }

module _ (k : ℕ) (i : Instruction) (plan : Plan) (previous : Round) (offset : ℕ) where
  bytes_nearly : Near (offset + 1) (step_bytes_for k i plan previous offset)
  unfolding step_bytes_for
  bytes_nearly =
      near_one _ _ _ _ _ _ (offset + 1) (λ short. ltb-false (offset + 1) (length plan) short) (omega arith) (omega arith)

  -- a refusal is of one of the two bytes, or stands where the plan ends before them
  pub bytes_near : (e : Refused ℕ) → outcome (Err e) ≡ step_bytes_for k i plan previous offset → e.place ≤ offset + 1
  bytes_near e is = bytes_nearly.near (sym is)

  -- a refusal is the check's
  pub bytes_refused : (e : Refused ℕ) → outcome (Err e) ≡ step_bytes_for k i plan previous offset
      → step_bytes_for k i plan previous offset ≡ refused (number_of e.why) e.place
  bytes_refused e is = sym is

  module _ (is : outcome {P = ℕ} (Ok tt) ≡ step_bytes_for k i plan previous offset) where
    -- where there is none, the check passes
    pub bytes_passed : step_bytes_for k i plan previous offset ≡ passed tt
    bytes_passed = sym is

    bytes_tried : Tried (ltb (offset + 1) (length plan))
        (ltb (round_at plan offset).0 k && not_later previous (round_at plan offset))
        (step_bytes_for k i plan previous offset)
    unfolding step_bytes_for
    bytes_tried = tried _ _ _ _ _ _

    -- both bytes are there
    pub bytes_there : offset + 1 < length plan
    bytes_there = ltb-true _ _ (bytes_tried.passes bytes_passed).0

    -- the round is one of k
    pub bytes_round : (round_at plan offset).0 < k
    bytes_round = ltb-true _ _ (and_both _ _ (bytes_tried.passes bytes_passed).1).0
