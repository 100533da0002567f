-- Laws of the stores of rounds, read, written and compared byte by byte.
-- Assumes nothing.
use Rattle.std.specs.Prelude.{◌≡◌, refl, ℕ, ◌+◌, ◌*◌, ◌≤◌, ◌<◌, true, false, ◌&&◌, List, [], ◌∷◌, eqb, length, get_or, set, drop}
use Rattle.std.proofs.Math.Path.{sym}
use Rattle.std.proofs.Common.{ap, ◌∙◌, add-zero, add-one, arith, eq-eqb, ne_eqb}
use Rattle.std.proofs.Math.ListN.{drop_of_length-le}
use Rattle.std.proofs.Math.Seq.{paste, paste-zero, paste-suc, drop-cons}
use Rattle.notation.specs.Lists.{same, bytes_at}
use Rattle.notation.specs.Laws.TabulateLaws.{eight_values}
use Rattle.notation.specs.Laws.TestLaws.{and_first, and_second}
use Rattle.machine.specs.Instructions.{Store}
use Rattle.plan_marks.specs.Code.Marks.{store_at, with_store}

-- eight bytes written out are the store of a round
pub store_read : (stores : List ℕ) (r : ℕ)
    → get_or stores (8 * r) 0 ∷ get_or stores (8 * r + 1) 0 ∷ get_or stores (8 * r + 2) 0 ∷ get_or stores (8 * r + 3) 0
    ∷ get_or stores (8 * r + 4) 0 ∷ get_or stores (8 * r + 5) 0 ∷ get_or stores (8 * r + 6) 0 ∷ get_or stores (8 * r + 7) 0 ∷ []
    ≡ store_at stores r
unfolding store_at bytes_at
store_read stores r =
    eight_values (λ k. get_or stores (8 * r + k) 0) (ap (λ (i : ℕ). get_or stores i 0) (sym (add-zero (8 * r))))
    refl refl refl refl refl refl refl

-- ---- a store put: its first v bytes are written

pub record Putting (before : List ℕ) (at : ℕ) (store : Store) (v : ℕ) (now : List ℕ) : Type 0 where
  pub is : now ≡ paste before at store v
  pub most : v ≤ 8

pub putting_none : (before : List ℕ) (at : ℕ) (store : Store) → Putting before at store 0 before
putting_none before at store = record { is = paste-zero before at store; most = omega arith }

pub putting_more : (before : List ℕ) (at : ℕ) (store : Store) (v : ℕ) (now : List ℕ) → Putting before at store v now
    → at + 8 ≤ length before → length store ≡ 8 → v < 8
    → Putting before at store (v + 1) (set now (at + v) (get_or store v 0))
putting_more before at store v now done room eight lt = record {
  is =
      ap (λ (l : List ℕ). set l (at + v) (get_or store v 0)) done.is
      ∙ paste-suc before at store v 0 (omega arith) (omega arith)
      ∙ ap (paste before at store) (sym (add-one v));
  most = omega arith;
}

pub putting_all : (before : List ℕ) (r : ℕ) (store : Store) (v : ℕ) (now : List ℕ) → Putting before (8 * r) store v now
    → 8 ≤ v → now ≡ with_store before r store
unfolding with_store
putting_all before r store v now done all =
    let whole : v ≡ 8 = omega arith in
    done.is ∙ ap (paste before (8 * r) store) whole

-- ---- two stores compared: so far they are the same

pub record Comparing (x y : List ℕ) (v : ℕ) : Type 0 where
  pub rest : same x y ≡ same (drop v x) (drop v y)
  pub most : v ≤ 8

pub comparing_none : (x y : List ℕ) → Comparing x y 0
comparing_none x y = record { rest = refl; most = omega arith }

module _ (x y : List ℕ) (v : ℕ) (done : Comparing x y v) (is_x : length x ≡ 8) (isY : length y ≡ 8) where
  next : v < 8 → same (drop v x) (drop v y) ≡ (eqb (get_or x v 0) (get_or y v 0) && same (drop (v + 1) x) (drop (v + 1) y))
  unfolding same
  next lt =
      rw (add-one v) (rw (drop-cons x v 0 (omega arith), drop-cons y v 0 (omega arith)) refl)

  pub comparing_more : v < 8 → get_or x v 0 ≡ get_or y v 0 → Comparing x y (v + 1)
  comparing_more lt equal = record {
    rest = done.rest ∙ next lt ∙ and_second (eqb (get_or x v 0) (get_or y v 0)) _ (eq-eqb _ _ equal);
    most = omega arith;
  }

  pub comparing_differs : v < 8 → (get_or x v 0 ≡ get_or y v 0 → ⊥) → false ≡ same x y
  comparing_differs lt other =
      sym (done.rest ∙ next lt ∙ and_first (eqb (get_or x v 0) (get_or y v 0)) _ (ne_eqb _ _ other))

  pub comparing_all : 8 ≤ v → true ≡ same x y
  unfolding same
  comparing_all all =
      sym (done.rest ∙ rw (drop_of_length-le x {i = v} (omega arith), drop_of_length-le y {i = v} (omega arith)) refl)
