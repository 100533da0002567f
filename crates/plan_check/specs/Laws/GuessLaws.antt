-- Laws of the guesses: what a round must start from, and the search for the first that is wrong.
-- Assumes nothing.
use Rattle.std.specs.Prelude.{◌≡◌, Bool, not, List, [], ◌∷◌, length, get_or}
use Rattle.std.proofs.Math.Path.{refl, sym, ap}
use Rattle.std.proofs.Common.{◌∙◌}
use Prim.Native.Nat.{ℕ, zero, suc, ◌+◌, ◌-◌, ◌*◌, ◌≤◌, ◌<◌}
use native.Mathlib.Omega.{arith}
use Rattle.std.proofs.Math.Bool.{true, false}
use Rattle.notation.specs.Checked.{refused, passed, none_of}
use Rattle.notation.specs.Laws.ElementLaws.{last_at, last_none, same_refl, same_equal}
use Rattle.notation.specs.Laws.SearchLaws.{from_first, from_none}
use Rattle.notation.specs.Laws.TestLaws.{test_decided}
use Rattle.std.proofs.Math.Logic.{inl, inr}
use Rattle.std.specs.Prelude.{if◌then◌else◌}
use Rattle.notation.specs.Laws.TabulateLaws.{eight_values}
use Rattle.notation.specs.Lists.{from, up_to, same, last_or, bytes_at}
use Rattle.machine.specs.Ends.{no_store}
use Rattle.machine.specs.Instructions.{Store}
use Rattle.plan.specs.declared.Round.{Round}
use Rattle.plan.specs.Runs.{Plan, guess}
use Rattle.plan_marks.specs.Code.Marks.{store_at, stores_in}
use Rattle.plan_marks.specs.Code.PairParts.{due_store_in, guess_fault_from, guess_fault_in}
use Rattle.plan_marks.specs.Laws.StoreLaws.{bytes_at_part, stores_at, stores_length}

-- eight bytes written out are the guess of a round
pub guess_read : (plan : Plan) (r : Round) → 9 + 8 * r.0 ≤ length plan
    → (let at = 1 + 8 * r.0 in
    get_or plan at 0 ∷ get_or plan (at + 1) 0 ∷ get_or plan (at + 2) 0 ∷ get_or plan (at + 3) 0 ∷ get_or plan (at + 4) 0
    ∷ get_or plan (at + 5) 0 ∷ get_or plan (at + 6) 0 ∷ get_or plan (at + 7) 0 ∷ [])
    ≡ guess plan r
unfolding guess bytes_at
guess_read plan r fits =
    eight_values (λ k. get_or plan (1 + 8 * r.0 + k) 0) (ap (λ (at : ℕ). get_or plan at 0) (omega arith))
    refl refl refl refl refl refl refl
    ∙ bytes_at_part plan (1 + 8 * r.0) 8 (omega arith)

-- ---- the store that a round must start from

module _ (store : Store) (stores : List ℕ) (k : ℕ) where
  pub due_first : (r : ℕ) → r ≡ 0 → store ≡ due_store_in store stores k r
  unfolding due_store_in
  due_first r first = rw first refl

  pub due_later : (r : ℕ) {s : Store} → (r ≡ 0 → ⊥) → r ≤ k → s ≡ store_at stores (r - 1)
      → s ≡ due_store_in store stores k r
  unfolding due_store_in
  due_later zero later within is = absurd (later refl)
  due_later (suc q) later within is =
      let before : suc q - 1 ≡ q = omega arith in
      is ∙ ap (store_at stores) before ∙ sym (stores_at stores k q (omega arith))

-- the end store is that which a round after the last would start from
pub end_due : (store : Store) (stores : List ℕ) (k : ℕ) {s : Store} → s ≡ due_store_in store stores k k
    → s ≡ last_or store (stores_in stores k)
unfolding due_store_in
end_due store stores zero is = is ∙ sym (last_none store (stores_in stores zero) (stores_length stores zero))
end_due store stores (suc q) is =
    is ∙ sym (last_at store no_store (stores_in stores (suc q)) q (stores_length stores (suc q)))

-- ---- the first wrong guess

-- is the guess of round r wrong?
abbrev wrong : Plan → Store → List ℕ → ℕ → ℕ → Bool
wrong plan store stores k r = not (same (guess plan (record { 0 = r })) (due_store_in store stores k r))

-- the guesses from round r on decide
pub record GuessesFrom (plan : Plan) (store : Store) (stores : List ℕ) (k r : ℕ) : Type 0 where
  pub within : r ≤ k
  pub on : guess_fault_in plan store stores k ≡ guess_fault_from plan store stores k (from r (k - r))

-- the guess of round r, where the rest decides this
guess_here : (plan : Plan) (store : Store) (stores : List ℕ) (k r : ℕ) (rs : List ℕ) (b : Bool)
    → wrong plan store stores k r ≡ b
    → guess_fault_from plan store stores k (r ∷ rs)
    ≡ (if b then refused 45 r else guess_fault_from plan store stores k rs)
unfolding guess_fault_from none_of
guess_here plan store stores k r rs b e =
    ap (λ (w : Bool). if w then refused 45 r else guess_fault_from plan store stores k rs) e

module _ (plan : Plan) (store : Store) (stores : List ℕ) (k : ℕ) where
  pub guesses_all : GuessesFrom plan store stores k 0
  unfolding guess_fault_in up_to
  guesses_all =
      let all : k ≡ k - 0 = omega arith in
      record { within = omega arith; on = ap (λ (n : ℕ). guess_fault_from plan store stores k (from 0 n)) all }

  module _ (r : ℕ) (so_far : GuessesFrom plan store stores k r) where
    pub guess_missing : k ≤ r → passed tt ≡ guess_fault_in plan store stores k
    unfolding guess_fault_from none_of
    guess_missing past = sym (so_far.on ∙ ap (guess_fault_from plan store stores k) (from_none r k past))

    module _ (lt : r < k) {g s : Store} (guessed : g ≡ guess plan (record { 0 = r }))
        (due : s ≡ due_store_in store stores k r) where
      -- what is left, by whether this guess is wrong
      decided : (b : Bool) → not (same g s) ≡ b
          → guess_fault_in plan store stores k
          ≡ (if b then refused 45 r else guess_fault_from plan store stores k (from (r + 1) (k - (r + 1))))
      decided b e =
          so_far.on ∙ ap (guess_fault_from plan store stores k) (from_first r k lt)
          ∙ guess_here plan store stores k r _ b (ap not (λ i. same (sym guessed i) (sym due i)) ∙ e)

      pub guess_found : (g ≡ s → ⊥) → refused 45 r ≡ guess_fault_in plan store stores k
      guess_found other =
          sym (decided true (elim (test_decided (same g s)) [
            | inl equal ↦ absurd (other (same_equal g s equal))
            | inr differs ↦ ap not differs
          ]))

      pub guess_later : g ≡ s → GuessesFrom plan store stores k (r + 1)
      guess_later equal =
          record { within = omega arith; on = decided false (ap not (ap (same g) (sym equal) ∙ same_refl g)) }
