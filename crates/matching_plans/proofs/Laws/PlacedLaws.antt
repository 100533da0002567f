-- Laws of a plan's guesses as they are written into a buffer with room for a plan, from a place on: one byte more.
-- Assumes nothing.
use Rattle.std.specs.Prelude.{◌≡◌, ℕ, ◌+◌, ◌≤◌, ◌<◌, List, [], ◌∷◌, length, get_or, take}
use Rattle.std.proofs.Math.Path.{sym, ap}
use Rattle.std.proofs.Common.{subst, ◌∙◌, add-one, take-suc}
use native.Mathlib.Omega.{arith}
use Rattle.notation_buffers.specs.Code.Writing.{Appends}
use Rattle.notation_buffers.specs.Laws.WritingLaws.{appends_none, appends_more}
use Rattle.matching_plans.proofs.Laws.PutLaws.{guesses_to}

-- what was written from a place on, into a buffer with room for a plan
abbrev pub Puts : List ℕ → ℕ → List ℕ → List ℕ → ℕ → Type 0
Puts before at bytes after n = Appends 1281 before at bytes after n

puts_same : {before : List ℕ} {at : ℕ} {bytes other after : List ℕ} {n : ℕ} → bytes ≡ other
    → Puts before at bytes after n → Puts before at other after n
puts_same {before} {at} {bytes} {other} {after} {n} e puts = subst (λ (l : List ℕ). Puts before at l after n) e puts

-- ---- the guesses

module _ (before : List ℕ) (at : ℕ) (guesses : List ℕ) where
  pub guesses_none : Puts before at (guesses_to guesses 0) before at
  unfolding guesses_to
  guesses_none = appends_none 1281 before at

  pub guesses_more : 1281 ≤ length before → (v : ℕ) {mid : List ℕ} {m : ℕ} {after : List ℕ} {n : ℕ}
      → Puts before at (guesses_to guesses v) mid m → Puts mid m (get_or guesses v 0 ∷ []) after n → v < length guesses
      → Puts before at (guesses_to guesses (v + 1)) after n
  unfolding guesses_to
  guesses_more enough v first second lt =
      puts_same (sym (take-suc guesses v 0 lt) ∙ ap (λ (k : ℕ). take k guesses) (sym (add-one v))) (appends_more enough first second)

  pub guesses_put : (most v : ℕ) {after : List ℕ} {n : ℕ} → Puts before at (guesses_to guesses v) after n → v ≤ most
      → most ≤ v → Puts before at (take most guesses) after n
  unfolding guesses_to
  guesses_put most v puts le ge = let same : v ≡ most = omega arith in puts_same (ap (λ (k : ℕ). take k guesses) same) puts
