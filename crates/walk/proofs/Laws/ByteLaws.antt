-- The moves of a state, in the walk's order, are the bytes below 128 that are steps, ascending: so the walk may try
-- each byte in turn, and skip bytes that are no steps.
-- Assumes nothing.
use Rattle.std.specs.Prelude.{◌≡◌, refl, ◌⊎◌}
use Rattle.std.proofs.Common.{sym, ap, ap₂, ◌∙◌}
use Rattle.std.proofs.Math.Logic.{inl, inr}
use Prim.Native.Nat.{ℕ, zero, suc, ◌+◌, ◌≤◌, ◌<◌}
use Rattle.std.proofs.Math.Decide.{ℕ_discrete}
use native.Mathlib.Omega.{arith}
use mathlib.Core.List.Memᴰ
use mathlib.Core.List.{List, [], ◌∷◌, Memᴰ}
use Rattle.std.proofs.Math.Option.{Option, none, some}
use Rattle.notation.specs.Laws.PairLaws.{every_imp, every_member}
use Rattle.notation.specs.Ordered.{Every, Ordered}
use Rattle.timing.specs.Accepted.{Accepted}
use Rattle.timing.specs.Code.IsAccepted.{IsAccepted}
use Rattle.order.specs.OrderBytes.{task_of_byte}
use Rattle.order.specs.Code.Invariant.{Invariant}
use Rattle.order.specs.Orders.{step}
use Rattle.timing.proofs.Laws.BaseLaws.{base_small}
use Rattle.order.specs.States.{State}
use Rattle.order.proofs.Laws.StepLaws.{good_turn, step_says}
use Rattle.walk.proofs.Laws.MoveLaws.{moves_ascend, move_is_step, step_is_move}
use Rattle.walk.specs.Moves.{Move, moves}

module _ {A : Type 0} (f : A → ℕ) where
  -- two ascending lists whose first elements are each in the other have the same first element
  same_first : (x y : A) (xs ys : List A) → Every (λ z. f x < f z) xs → Every (λ z. f y < f z) ys
      → Memᴰ x (y ∷ ys) → Memᴰ y (x ∷ xs) → x ≡ y
  same_first x y xs ys low first here there =
      elim (Memᴰ.cases_cons here) [
        | inl same ↦ same
        | inr later ↦
            elim (Memᴰ.cases_cons there) [
              | inl same ↦ sym same
              | inr after ↦ absurd (omega (arith, every_member (λ z. f y < f z) ys first later, every_member (λ z. f x < f z) xs low after))
            ]
      ]

  -- and then what is behind it in one, if all of that is in the other, is behind it there
  same_later : (x y : A) (xs ys : List A) → x ≡ y → Every (λ z. f x < f z) xs
      → ((z : A) → Memᴰ z (x ∷ xs) → Memᴰ z (y ∷ ys)) → (z : A) → Memᴰ z xs → Memᴰ z ys
  same_later x y xs ys first low within z here =
      elim (Memᴰ.cases_cons (within z (Memᴰ.tail here))) [
        | inl same ↦ absurd (omega (arith, ap f same, ap f first, every_member (λ z. f x < f z) xs low here))
        | inr later ↦ later
      ]

  -- two lists that ascend in a number of their elements and have the same members are equal
  same_members : (xs ys : List A) → Ordered (λ x y. f x < f y) xs → Ordered (λ x y. f x < f y) ys
      → ((z : A) → Memᴰ z xs → Memᴰ z ys) → ((z : A) → Memᴰ z ys → Memᴰ z xs) → xs ≡ ys
  same_members [] [] h k into back = refl
  same_members [] (y ∷ ys) h k into back = absurd (Memᴰ.not-nil (back y (Memᴰ.head refl)))
  same_members (x ∷ xs) [] h k into back = absurd (Memᴰ.not-nil (into x (Memᴰ.head refl)))
  same_members (x ∷ xs) (y ∷ ys) h k into back =
      let first = same_first x y xs ys h.0 k.0 (into x (Memᴰ.head refl)) (back y (Memᴰ.head refl)) in
      ap₂ (λ (z : A) (zs : List A). z ∷ zs) first
      (same_members xs ys h.1 k.1 (same_later x y xs ys first h.0 into) (same_later y x ys xs (sym first) k.0 back))

-- ---- the bytes that are steps

-- the moves among the n bytes from `byte` on, ascending
unfoldable pub steps_from : Accepted → State → ℕ → ℕ → List Move
steps_from a s byte zero = []
steps_from a s byte (suc n) =
    elim (step a s byte) [
      | none ↦ steps_from a s (suc byte) n
      | some after ↦ record { byte = byte; after = after } ∷ steps_from a s (suc byte) n
    ]

-- a byte is no step or leads to a state
step_or_none : (o : Option State) → (o ≡ none) ⊎ ((after : State) × (o ≡ some after))
step_or_none none = inl refl
step_or_none (some after) = inr (after, refl)

-- one byte that is no step
steps_none : (a : Accepted) (s : State) (byte n : ℕ) → step a s byte ≡ none
    → steps_from a s byte (suc n) ≡ steps_from a s (suc byte) n
unfolding steps_from
steps_none a s byte n e = rw (e, steps_from) refl

-- one step
pub steps_some : (a : Accepted) (s : State) (byte n : ℕ) {after : State} → step a s byte ≡ some after
    → steps_from a s byte (suc n) ≡ record { byte = byte; after = after } ∷ steps_from a s (suc byte) n
unfolding steps_from
steps_some a s byte n e = rw (e, steps_from) refl

-- bytes that are no steps may be skipped
pub steps_skip : (a : Accepted) (s : State) (byte m n : ℕ) → ((k : ℕ) → byte ≤ k → k < byte + m → step a s k ≡ none)
    → steps_from a s byte (m + n) ≡ steps_from a s (byte + m) n
steps_skip a s byte zero n h = ap₂ (steps_from a s) {x = byte} {y = byte + 0} (omega arith) (omega arith)
steps_skip a s byte (suc m) n h =
    let longer : suc m + n ≡ suc (m + n) = omega arith in
    let further : suc byte + m ≡ byte + suc m = omega arith in
    ap (steps_from a s byte) longer
    ∙ steps_none a s byte (m + n) (h byte (omega arith) (omega arith))
    ∙ steps_skip a s (suc byte) m n (λ k low high. h k (omega arith) (omega arith))
    ∙ ap (λ (k : ℕ). steps_from a s k n) further

-- a move that stands at `byte` or later, and is a step
abbrev StepFrom : Accepted → State → ℕ → Move → Type 0
StepFrom a s byte m = (byte ≤ m.byte) × (step a s m.byte ≡ some m.after)

module _ (a : Accepted) (s : State) where
  -- each listed move is a step, at `byte` or later
  steps_made_lem : (byte n : ℕ) → Every (StepFrom a s byte) (steps_from a s byte n)
  unfolding steps_from
  steps_made_lem byte zero = tt
  steps_made_lem byte (suc n) =
      let later : Every (StepFrom a s byte) (steps_from a s (suc byte) n) =
      every_imp (StepFrom a s (suc byte)) (StepFrom a s byte) (λ m h. (omega arith, h.1)) (steps_from a s (suc byte) n) (steps_made_lem (suc byte) n) in
      elim (step_or_none (step a s byte)) [
        | inl e ↦ rw (steps_none a s byte n e) later
        | inr made ↦ rw (steps_some a s byte n made.1) ((omega arith, made.1), later)
      ]

  -- they ascend
  steps_ascend : (byte n : ℕ) → Ordered (λ x y. x.byte < y.byte) (steps_from a s byte n)
  unfolding steps_from
  steps_ascend byte zero = tt
  steps_ascend byte (suc n) =
      elim (step_or_none (step a s byte)) [
        | inl e ↦ rw (steps_none a s byte n e) (steps_ascend (suc byte) n)
        | inr made ↦
            rw (steps_some a s byte n made.1) (
              every_imp (StepFrom a s (suc byte)) (λ m. byte < m.byte) (λ m h. h.0) (steps_from a s (suc byte) n) (steps_made_lem (suc byte) n),
              steps_ascend (suc byte) n,
            )
      ]

  -- and each step among those bytes is listed
  step_listed : (byte n k : ℕ) {after : State} → byte ≤ k → k < byte + n → step a s k ≡ some after
      → Memᴰ (record { byte = k; after = after }) (steps_from a s byte n)
  step_listed byte zero k low high e = absurd (omega arith)
  step_listed byte (suc n) k {after} low high e =
      elim (ℕ_discrete k byte) [
        | yes same ↦
            let here : step a s byte ≡ some after = ap (step a s) (sym same) ∙ e in
            rw (steps_some a s byte n here) (Memᴰ.head (ap (λ (j : ℕ). record { byte = j; after = after }) same))
        | no apart ↦
            let later = step_listed (suc byte) n k (omega arith) (omega arith) e in
            elim (step_or_none (step a s byte)) [
              | inl idle ↦ rw (steps_none a s byte n idle) later
              | inr made ↦ rw (steps_some a s byte n made.1) (Memᴰ.tail later)
            ]
      ]

-- ---- the moves are the steps

module _ {a : Accepted} (ok : IsAccepted a) {s : State} (inv : Invariant a s) where
  -- a step's byte is below 128: there are at most 8 tasks
  step_small : (byte : ℕ) {after : State} → step a s byte ≡ some after → byte < 128
  step_small byte e =
      let made = step_says a s byte e in
      let good = good_turn ok inv (task_of_byte byte) made.due in
      omega (arith, good.1, base_small ok made.turn.frame.job good.0.running.job)

-- the moves in the walk's order are all bytes below 128 that are steps, ascending
pub moves_steps : {a : Accepted} → IsAccepted a → {s : State} → Invariant a s → moves a s ≡ steps_from a s 0 128
moves_steps {a} ok {s} inv =
    same_members (λ (m : Move). m.byte) (moves a s) (steps_from a s 0 128) (moves_ascend ok inv) (steps_ascend a s 0 128)
    (λ m here. let e = move_is_step ok inv here in step_listed a s 0 128 m.byte (omega arith) (omega (arith, step_small ok inv m.byte e)) e)
    (λ m here. step_is_move ok inv m.byte (every_member (StepFrom a s 0) (steps_from a s 0 128) (steps_made_lem a s 0 128) here).1)
