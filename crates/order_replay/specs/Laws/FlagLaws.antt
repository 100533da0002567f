-- Whether a job has failed, as it is read of the flags in a state's bytes.
-- Assumes nothing.
use Rattle.std.specs.Prelude.{◌≡◌, refl, ℕ, ◌+◌, ◌-◌, ◌≤◌, ◌<◌, ◌||◌, Bool, true, false}
use Rattle.std.specs.Prelude.{List, [], ◌∷◌, length, get_or, take, drop, not, eqb}
use Rattle.std.specs.List.{list_any}
use Rattle.std.proofs.Common.{sym, ap, ◌∙◌, eq-eqb, ne_eqb, arith}
use Rattle.notation.specs.Lists.{any, from, up_to, bytes_at}
use Rattle.notation.specs.Laws.BytesLaws.{bytes_taken}
use Rattle.notation.specs.Laws.SomeLaws.{some_found, some_later, some_missing, any_map}
use Rattle.order_states.specs.Code.StateBytes.{flag_in, snapshot_in}

-- ---- the flags

-- the flags from x on decide whether one is raised
abbrev pub FlagsFrom : List ℕ → ℕ → Type 0
FlagsFrom bytes x = any (flag_in bytes) (up_to 32) ≡ any (flag_in bytes) (from x (32 - x))

flags_mapped : (bytes : List ℕ) → any (λ flag. flag) (snapshot_in bytes).failed ≡ any (flag_in bytes) (up_to 32)
unfolding snapshot_in
flags_mapped bytes = any_map (flag_in bytes) (λ flag. flag) (up_to 32)

pub flags_all : (bytes : List ℕ) → FlagsFrom bytes 0
unfolding up_to
flags_all bytes = refl

module _ (bytes : List ℕ) (x : ℕ) (on : FlagsFrom bytes x) where
  pub raised_found : x < 32 → (get_or bytes (16 + x) 0 ≡ 0 → ⊥) → true ≡ any (λ flag. flag) (snapshot_in bytes).failed
  unfolding flag_in
  raised_found lt h =
      sym (flags_mapped bytes ∙ some_found (flag_in bytes) 32 x on lt (ap not (ne_eqb (get_or bytes (16 + x) 0) 0 h)))

  pub raised_later : x < 32 → get_or bytes (16 + x) 0 ≡ 0 → FlagsFrom bytes (x + 1)
  unfolding flag_in
  raised_later lt h = some_later (flag_in bytes) 32 x on lt (ap not (eq-eqb (get_or bytes (16 + x) 0) 0 h))

  pub raised_missing : 32 ≤ x → false ≡ any (λ flag. flag) (snapshot_in bytes).failed
  raised_missing le = sym (flags_mapped bytes ∙ some_missing (flag_in bytes) 32 x on le)

-- ---- the library's test of them

-- the library's test of some element is the definitions'
any_listed : (test : ℕ → Bool) (xs : List ℕ) → list_any test xs ≡ any test xs
unfolding any
any_listed test [] = refl
any_listed test (x ∷ xs) = ap (λ (b : Bool). test x || b) (any_listed test xs)

flags_read : (bytes : List ℕ) → any (λ flag. not (eqb flag 0)) (bytes_at bytes 16 32) ≡ any (λ flag. flag) (snapshot_in bytes).failed
unfolding bytes_at snapshot_in flag_in
flags_read bytes =
    any_map (λ k. get_or bytes (16 + k) 0) (λ flag. not (eqb flag 0)) (up_to 32)
    ∙ sym (any_map (flag_in bytes) (λ flag. flag) (up_to 32))

pub some_raised : (bytes : List ℕ) → length bytes ≡ 192
    → list_any (λ flag. not (eqb flag 0)) (take 32 (drop 16 bytes)) ≡ any (λ flag. flag) (snapshot_in bytes).failed
some_raised bytes whole =
    any_listed _ _ ∙ ap (any (λ flag. not (eqb flag 0))) (bytes_taken bytes 16 32 (omega arith)) ∙ flags_read bytes
