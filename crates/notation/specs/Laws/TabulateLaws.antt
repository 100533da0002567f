-- The list of a function's values at 0 to n - 1.
-- Assumes nothing.
use Rattle.std.specs.Prelude.{◌≡◌, refl, ℕ, ◌+◌, ◌<◌, List, [], ◌∷◌, ◌++◌, map, length, set}
use Rattle.std.proofs.Common.{sym, ap, ◌∙◌, arith, add-one, length-set, ext_get_or, get_or-set_same, get_or-set_other}
use Rattle.std.proofs.Math.Decide.{ℕ_discrete}
use Rattle.std.proofs.Math.ListN.{get_or}
use Rattle.notation.specs.Laws.ListLaws.{up_to_length, get_or_up_to, from_snoc, map_snoc}
use Rattle.notation.specs.Lists.{from, up_to, bytes_at}
use Rattle.notation.specs.Laws.QuantifierLaws.{map_length, map_at}

pub values_length : {A : Type 0} (f : ℕ → A) (n : ℕ) → length (map f (up_to n)) ≡ n
values_length f n = map_length f (up_to n) ∙ up_to_length n

pub values_at : {A : Type 0} (f : ℕ → A) (n k : ℕ) (d : A) → k < n → get_or (map f (up_to n)) k d ≡ f k
values_at f n k d lt = map_at f (up_to n) k 0 d (omega (arith, up_to_length n)) ∙ ap f (get_or_up_to n k 0 lt)

-- a list with these elements is the list of them
pub values_are : {A : Type 0} (f : ℕ → A) (n : ℕ) (xs : List A) (d : A) → length xs ≡ n
    → ((k : ℕ) → k < n → get_or xs k d ≡ f k) → xs ≡ map f (up_to n)
values_are f n xs d size h =
    ext_get_or d xs (map f (up_to n)) (size ∙ sym (values_length f n))
    (λ k lt. h k (omega (arith, size)) ∙ sym (values_at f n k d (omega (arith, size))))

-- eight of them, written out
pub eight_values : {A : Type 0} (f : ℕ → A) {a b c d e g h i : A} → a ≡ f 0 → b ≡ f 1 → c ≡ f 2 → d ≡ f 3 → e ≡ f 4
    → g ≡ f 5 → h ≡ f 6 → i ≡ f 7 → a ∷ b ∷ c ∷ d ∷ e ∷ g ∷ h ∷ i ∷ [] ≡ map f (up_to 8)
unfolding up_to from
eight_values f ea eb ec ed ee eg eh ei = rw (ea, eb, ec, ed, ee, eg, eh, ei) refl

-- a list of length n is its elements below n
pub values_of : (l : List ℕ) (n : ℕ) → length l ≡ n → map (λ k. get_or l k 0) (up_to n) ≡ l
values_of l n whole =
    ext_get_or 0 (map (λ k. get_or l k 0) (up_to n)) l (values_length (λ k. get_or l k 0) n ∙ sym whole)
    (λ k lt. values_at (λ j. get_or l j 0) n k 0 (omega (arith, values_length (λ j. get_or l j 0) n)))

-- functions that agree below n have the same values there
pub same_values : {A : Type 0} (f g : ℕ → A) (n : ℕ) → ((k : ℕ) → k < n → f k ≡ g k) → map f (up_to n) ≡ map g (up_to n)
same_values f g n agree =
    ext_get_or (f 0) (map f (up_to n)) (map g (up_to n)) (values_length f n ∙ sym (values_length g n))
    (λ k lt.
    (let small : k < n = omega (arith, values_length f n) in
    values_at f n k (f 0) small ∙ agree k small ∙ sym (values_at g n k (f 0) small)))

-- and if they agree but at i, one's values are the other's with one replaced
pub set_values : {A : Type 0} (f g : ℕ → A) (n i : ℕ) (v : A) → f i ≡ v → ((k : ℕ) → k < n → (k ≡ i → ⊥) → f k ≡ g k)
    → map f (up_to n) ≡ set (map g (up_to n)) i v
set_values f g n i v here agree =
    ext_get_or v (map f (up_to n)) (set (map g (up_to n)) i v)
    (values_length f n ∙ sym (length-set (map g (up_to n)) i v ∙ values_length g n))
    (λ k lt.
    (let small : k < n = omega (arith, values_length f n) in
    values_at f n k v small ∙ at k small))
  where
    at : (k : ℕ) → k < n → f k ≡ get_or (set (map g (up_to n)) i v) k v
    at k small =
        elim (ℕ_discrete k i) [
          | yes same ↦
              ap f same ∙ here ∙ sym (get_or-set_same (map g (up_to n)) i v v (omega (arith, values_length g n)))
              ∙ ap (λ (j : ℕ). get_or (set (map g (up_to n)) i v) j v) (sym same)
          | no apart ↦ agree k small apart ∙ sym (get_or-set_other (map g (up_to n)) i k v v apart ∙ values_at g n k v small)
        ]

-- one number more at the end
pub values_snoc : {A : Type 0} (f : ℕ → A) (n : ℕ) → map f (up_to (n + 1)) ≡ map f (up_to n) ++ (f n ∷ [])
unfolding up_to
values_snoc {A} f n =
    ap (λ (k : ℕ). map f (from 0 k)) (add-one n)
    ∙ ap (map f) (from_snoc 0 n)
    ∙ map_snoc f (from 0 n) (0 + n)
    ∙ ap (λ (k : ℕ). map f (from 0 n) ++ (f k ∷ [])) (omega arith)

-- ---- the numbers of a list from a place on

module _ (bytes : List ℕ) where
  pub bytes_at_length : (a n : ℕ) → length (bytes_at bytes a n) ≡ n
  unfolding bytes_at
  bytes_at_length a n = values_length (λ k. get_or bytes (a + k) 0) n

  pub bytes_at_at : (a n k d : ℕ) → k < n → get_or (bytes_at bytes a n) k d ≡ get_or bytes (a + k) 0
  unfolding bytes_at
  bytes_at_at a n k d lt = values_at (λ k. get_or bytes (a + k) 0) n k d lt
