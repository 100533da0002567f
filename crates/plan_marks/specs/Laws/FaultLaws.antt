-- Laws of what a function that may refuse answers: a value says that the check passed, and a refusal is the check's.
-- Assumes nothing.
use Rattle.std.specs.Prelude.{◌≡◌, refl, ℕ, Result, Ok, Err}
use Rattle.notation.specs.Checked.{Checked, refused, passed, ◌>>◌}
use Rattle.taskfile.specs.Code.Refusals.{outcome, number_of}
use Rattle.taskfile.specs.declared.refusals.Refused.{Refused}

-- a refusal is not a value
pub some_fault : {A : Type 0} {e : Refused ℕ} {value : A} → ◌≡◌ {A = Result A (Refused ℕ)} (Err e) (Ok value) → ⊥
some_fault clash = cc

-- one refusal is one number at one place
pub fault_same : {A B : Type 0} {e f : Refused ℕ} → ◌≡◌ {A = Result B (Refused ℕ)} (Err e) (Err f)
    → ◌≡◌ {A = Checked ℕ A} (outcome (Err e)) (outcome (Err f))
fault_same same = cc

pub fault_refused : {A : Type 0} (c : Checked ℕ A) {r : Result A (Refused ℕ)} {e : Refused ℕ} → outcome r ≡ c
    → r ≡ Err e → c ≡ refused (number_of e.why) e.place
fault_refused c is there = rw (← is, there) refl

pub fault_passed : (c : Checked ℕ (Unit {0})) {r : Result (Unit {0}) (Refused ℕ)} → outcome r ≡ c → r ≡ Ok tt
    → c ≡ passed tt
fault_passed c is clear = rw (← is, clear) refl

-- a refusal decides what follows
pub fault_decides : {A B : Type 0} (c : Checked ℕ A) (d : Checked ℕ B) (e : Refused ℕ)
    → outcome {A = A} (Err e) ≡ c → outcome {A = B} (Err e) ≡ ◌>>◌ c d
unfolding ◌>>◌
fault_decides c d e is = rw (← is) refl

-- and without one what follows decides
pub rest_decides : {A B : Type 0} (c : Checked ℕ A) (d : Checked ℕ B) (value : A) (r : Result B (Refused ℕ))
    → outcome {P = ℕ} (Ok value) ≡ c → outcome r ≡ d → outcome r ≡ ◌>>◌ c d
unfolding ◌>>◌
rest_decides c d value r is rest = rw (← is) rest
