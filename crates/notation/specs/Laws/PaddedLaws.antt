-- Laws of a list as an array that is filled up: `padded n x xs`.
-- Assumes nothing.
use Rattle.std.specs.Prelude.{◌≡◌, refl, ℕ, zero, suc, ◌≤◌, ◌<◌, List, [], ◌∷◌, ◌++◌, map, length, get_or, take, set, replicate}
use Rattle.std.proofs.Common.{sym, ap, ◌∙◌, not-suc-le-zero, le_of_suc-le-suc, le_refl, arith, take-take, take_at}
use Rattle.std.proofs.Math.Decide.{dec_lt}
use Rattle.std.proofs.lemmas.List.{get_or-replicate, length-map}
use Rattle.std.proofs.Math.ListN.{get_or-eq_default}
use Rattle.notation.specs.Lists.{padded}
use Rattle.notation.specs.Laws.PairLaws.{every_append}
use Rattle.notation.specs.Ordered.{Every}

-- it does not matter how many more than enough fill the list up
filling : {A : Type 0} (x : A) (xs : List A) (n j k : ℕ) → n ≤ j → n ≤ k
    → take n (xs ++ replicate j x) ≡ take n (xs ++ replicate k x)
filling x xs zero j k hj hk = refl
filling x [] (suc n) zero k hj hk = absurd (not-suc-le-zero hj)
filling x [] (suc n) (suc j) zero hj hk = absurd (not-suc-le-zero hk)
filling x [] (suc n) (suc j) (suc k) hj hk = ap (λ (l : List _). x ∷ l) (filling x [] n j k (le_of_suc-le-suc hj) (le_of_suc-le-suc hk))
filling x (y ∷ xs) (suc n) j k hj hk = ap (λ (l : List _). y ∷ l) (filling x xs n j k (omega arith) (omega arith))

pub padded_cons : {A : Type 0} (n : ℕ) (x y : A) (xs : List A) → padded (suc n) x (y ∷ xs) ≡ y ∷ padded n x xs
unfolding padded
padded_cons n x y xs = ap (λ (l : List _). y ∷ l) (filling x xs n (suc n) n (omega arith) (le_refl n))

pub padded_nil : {A : Type 0} (n : ℕ) (x : A) → padded n x [] ≡ replicate n x
unfolding padded
padded_nil zero x = refl
padded_nil (suc n) x = ap (λ (l : List _). x ∷ l) (filling x [] n n n (le_refl n) (le_refl n) ∙ padded_nil n x)

pub padded_length : {A : Type 0} (n : ℕ) (x : A) (xs : List A) → length (padded n x xs) ≡ n
unfolding padded
padded_length zero x xs = refl
padded_length (suc n) x [] = ap suc (padded_length n x [])
padded_length (suc n) x (y ∷ xs) = ap length (padded_cons n x y xs) ∙ ap suc (padded_length n x xs)

get_or_nil : {A : Type 0} (k : ℕ) (x : A) → get_or {A = A} [] k x ≡ x
get_or_nil zero x = refl
get_or_nil (suc k) x = refl

-- an element of the array is the list's, or what fills it up
pub padded_at : {A : Type 0} (n : ℕ) (x : A) (xs : List A) (k : ℕ) → k < n → get_or (padded n x xs) k x ≡ get_or xs k x
padded_at zero x xs k h = absurd (not-suc-le-zero h)
padded_at (suc n) x [] k h = rw (padded_nil (suc n) x) (get_or-replicate (suc n) k x x h ∙ sym (get_or_nil k x))
padded_at (suc n) x (y ∷ xs) zero h = rw (padded_cons n x y xs) refl
padded_at (suc n) x (y ∷ xs) (suc k) h = rw (padded_cons n x y xs) (padded_at n x xs k (le_of_suc-le-suc h))

-- where the array holds the whole list, that is so at every index
pub padded_any : {A : Type 0} (n : ℕ) (x : A) (xs : List A) (k : ℕ) → length xs ≤ n
    → get_or (padded n x xs) k x ≡ get_or xs k x
padded_any n x xs k few =
    elim (dec_lt k n) [
      | yes inside ↦ padded_at n x xs k inside
      | no outside ↦
          get_or-eq_default (padded n x xs) x (omega (arith, padded_length n x xs)) ∙ sym (get_or-eq_default xs x (omega arith))
    ]

-- the element after the last is stored at its place
pub padded_snoc : {A : Type 0} (n : ℕ) (x : A) (xs : List A) (y : A) → length xs < n
    → set (padded n x xs) (length xs) y ≡ padded n x (xs ++ (y ∷ []))
padded_snoc zero x xs y h = absurd (not-suc-le-zero h)
padded_snoc (suc n) x [] y h = rw (padded_nil (suc n) x, padded_cons n x y [], padded_nil n x) refl
padded_snoc (suc n) x (z ∷ xs) y h =
    rw (padded_cons n x z xs, padded_cons n x z (xs ++ (y ∷ []))) (ap (λ (l : List _). z ∷ l) (padded_snoc n x xs y (le_of_suc-le-suc h)))

-- its first places hold what is stored
pub padded_held : {A B : Type 0} (m : ℕ) (d : B) (g : A → B) (xs : List A) → length xs ≤ m
    → take (length xs) (padded m d (map g xs)) ≡ map g xs
unfolding padded
padded_held m d g xs h =
    take-take (length xs) m (map g xs ++ replicate m d) h ∙ take_at (map g xs) (replicate m d) (length xs) (length-map xs g)

every_replicate : {A : Type 0} (P : A → Type 0) (m : ℕ) (d : A) → P d → Every P (replicate m d)
every_replicate P zero d h = tt
every_replicate P (suc m) d h = (h, every_replicate P m d h)

pub every_take : {A : Type 0} (P : A → Type 0) (m : ℕ) (xs : List A) → Every P xs → Every P (take m xs)
every_take P zero xs h = tt
every_take P (suc m) [] h = tt
every_take P (suc m) (x ∷ xs) h = (h.0, every_take P m xs h.1)

-- what holds of the default and of what is stored holds of the whole array
pub every_padded : {A : Type 0} (P : A → Type 0) (m : ℕ) (d : A) (xs : List A) → P d → Every P xs
    → Every P (padded m d xs)
unfolding padded
every_padded P m d xs h k =
    every_take P m (xs ++ replicate m d) (every_append P xs (replicate m d) k (every_replicate P m d h))
