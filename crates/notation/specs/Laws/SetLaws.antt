-- A law of a list in which one element is replaced.
-- Assumes nothing.
use Rattle.std.specs.Prelude.{◌≡◌, ℕ, ◌≤◌, List, length, get_or, set}
use Rattle.std.proofs.Common.{sym, subst, arith, get_or-set_same, get_or-set_other}
use Rattle.std.proofs.Math.Decide.{dec_le, ℕ_discrete}
use Rattle.std.proofs.Math.Seq.{set_out}

-- what holds of each element, and of the new one, holds of each afterwards
pub set_each : {A : Type 0} (P : A → Type 0) (d : A) (l : List A) → ((k : ℕ) → P (get_or l k d)) → (i : ℕ) (x : A)
    → P x → (k : ℕ) → P (get_or (set l i x) k d)
set_each P d l each i x new k = go (ℕ_discrete k i) (dec_le (length l) i)
  where
    go : Dec (k ≡ i) → Dec (length l ≤ i) → P (get_or (set l i x) k d)
    go (no apart) room = subst P (sym (get_or-set_other l i k x d apart)) (each k)
    go (yes same) (yes past) = subst (λ m. P (get_or m k d)) (sym (set_out l i x past)) (each k)
    go (yes same) (no below) =
        subst (λ j. P (get_or (set l i x) j d)) (sym same) (subst P (sym (get_or-set_same l i x d (omega arith))) new)
