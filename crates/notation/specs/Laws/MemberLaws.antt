-- Laws of membership: what `member` says of a number, of numbers from a start on, and of lists joined.
-- Assumes nothing.
use Rattle.std.specs.Prelude.{◌≡◌, refl, ℕ, zero, suc, ◌+◌, ◌-◌, ◌≤◌, ◌<◌, true, ◌&&◌, ◌||◌, false, leb, eqb}
use Rattle.std.proofs.Math.Bool.{or_assoc, or_comm}
use Rattle.std.proofs.lemmas.Bool.{false≢true, lt-leb}
use mathlib.Core.List.Memᴰ
use mathlib.Core.List.{List, [], ◌∷◌, ◌++◌, Memᴰ}
use Rattle.std.proofs.Common.{eq-eqb, ne_eqb, eqb-true, le-leb, arith, inl, inr}
use Rattle.notation.specs.Lists.{member, from, from_to}
use Rattle.std.proofs.Math.Decide.{ℕ_discrete, dec_le}
use Rattle.notation.specs.Laws.TestLaws.{or_either, or_left, or_right}

-- what is in two lists joined is in one of them
pub member_append : (r : ℕ) (l m : List ℕ) → member r (l ++ m) ≡ (member r l || member r m)
unfolding member
member_append r [] m = refl
member_append r (x ∷ l) m = rw (member_append r l m, or_assoc)

-- a part of a joined list may move to its front
pub member_moved : (r : ℕ) (l m k : List ℕ) → member r (l ++ (m ++ k)) ≡ member r (m ++ l ++ k)
member_moved r l m k =
    rw (member_append r l (m ++ k), member_append r m k, member_append r (m ++ l) k, member_append r m l)
    (rw (or_comm (member r m) (member r l), or_assoc))

-- a number is in a list that starts with it, and in one that starts with another just if it is in the rest
pub member_here : (r x : ℕ) (l : List ℕ) → r ≡ x → member r (x ∷ l) ≡ true
unfolding member
member_here r x l e = rw (eq-eqb r x e)

pub member_later : (r x : ℕ) (l : List ℕ) → (r ≡ x → ⊥) → member r (x ∷ l) ≡ member r l
unfolding member
member_later r x l other = rw (ne_eqb r x other)

-- a number is one of the n from `start` on exactly if it is at least that and below start + n
pub member_inside : (v start n : ℕ) → start ≤ v → v < start + n → member v (from start n) ≡ true
unfolding member from
member_inside v start zero le lt = absurd (omega arith)
member_inside v start (suc n) le lt =
    elim (ℕ_discrete v start) [
      | yes same ↦ rw (eq-eqb v start same) refl
      | no apart ↦ rw (ne_eqb v start apart) (member_inside v (suc start) n (omega arith) (omega arith))
    ]

pub member_above : (v start n : ℕ) → start + n ≤ v → member v (from start n) ≡ false
unfolding member from
member_above v start zero le = refl
member_above v start (suc n) le = rw (ne_eqb v start (λ same. omega arith)) (member_above v (suc start) n (omega arith))

pub member_below : (v start n : ℕ) → v < start → member v (from start n) ≡ false
unfolding member from
member_below v start zero lt = refl
member_below v start (suc n) lt = rw (ne_eqb v start (λ same. omega arith)) (member_below v (suc start) n (omega arith))

-- and one of those from `first` to `last` exactly if it is at least the first and at most the last
pub member_between : (v first last : ℕ) → member v (from_to first last) ≡ (leb first v && leb v last)
unfolding from_to
member_between v first last =
    let n = suc last - first in
    elim (dec_le first v) [
      | yes low ↦
          elim (dec_le v last) [
            | yes high ↦ rw (le-leb first v low, le-leb v last high) (member_inside v first n low (omega arith))
            | no past ↦ rw (le-leb first v low, lt-leb v last (omega arith)) (member_above v first n (omega arith))
          ]
      | no short ↦ rw (lt-leb first v (omega arith)) (member_below v first n (omega arith))
    ]

-- membership as a test, and the other way round
pub member_holds : (x : ℕ) (ys : List ℕ) → Memᴰ x ys → member x ys ≡ true
unfolding member
member_holds x [] m = absurd (Memᴰ.not-nil m)
member_holds x (y ∷ ys) m =
    elim (Memᴰ.cases_cons m) [
      | inl same ↦ or_left (eqb x y) _ (eq-eqb x y same)
      | inr later ↦ or_right (eqb x y) _ (member_holds x ys later)
    ]

pub member_says : (x : ℕ) (ys : List ℕ) → member x ys ≡ true → Memᴰ x ys
unfolding member
member_says x [] h = absurd (false≢true h)
member_says x (y ∷ ys) h =
    elim (or_either (eqb x y) _ h) [
      | inl same ↦ Memᴰ.head (eqb-true x y same)
      | inr later ↦ Memᴰ.tail (member_says x ys later)
    ]
