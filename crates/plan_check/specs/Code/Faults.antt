-- A plan's fault where its run, by any number at any place, or a rule refuses.
-- Assumes nothing.
use Rattle.std.specs.Prelude.{ℕ, Result, Ok, Err}
use Rattle.notation.specs.Checked.{Checked, refused, passed}

-- what a check comes to: nothing, or its number and place
unfoldable pub fault_of : {A : Type 0} → Checked ℕ A → Result (Unit {0}) (ℕ × ℕ)
fault_of (passed _) = Ok tt
fault_of (refused number place) = Err (number, place)

-- a run's fault, or else that of the check after it
unfoldable pub fault_then : {A : Type 0} → Result (Unit {0}) (ℕ × ℕ) → Checked ℕ A → Result (Unit {0}) (ℕ × ℕ)
fault_then (Err fault) check = Err fault
fault_then (Ok _) check = fault_of check
