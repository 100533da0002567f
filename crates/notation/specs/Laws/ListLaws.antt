-- Laws of the lists that definitions run over: what their elements are, and how many.
-- Membership in a `map` is the library's, `Memᴰ.map` and `Memᴰ.of_map` of `mathlib.Core.List`.
-- Assumes nothing.
use Rattle.std.specs.Prelude.{ℕ, zero, suc, ◌+◌, ◌≤◌, ◌<◌, ◌↔◌, ◌≡◌, refl, ◌++◌, map, length, get_or}
use Rattle.std.proofs.Common.{arith, inl, inr, sym, ap, ◌∙◌}
use Rattle.std.proofs.Math.Decide.{dec_le}
use mathlib.Core.List.Memᴰ
use mathlib.Core.List.{List, [], ◌∷◌, append_assoc, Memᴰ}
use Rattle.notation.specs.Lists.{from, up_to, each}

-- an element read by its index is in the list
pub get_or_member : {A : Type 0} (xs : List A) (k : ℕ) (d : A) → k < length xs → Memᴰ (get_or xs k d) xs
get_or_member [] k d h = absurd (omega arith)
get_or_member (x ∷ xs) zero d h = Memᴰ.head refl
get_or_member (x ∷ xs) (suc k) d h = Memᴰ.tail (get_or_member xs k d (omega arith))

-- below the length, what stands at an index does not turn on the default
pub get_or_any : {A : Type 0} (xs : List A) (k : ℕ) (d e : A) → k < length xs → get_or xs k d ≡ get_or xs k e
get_or_any [] k d e h = absurd (omega arith)
get_or_any (x ∷ xs) zero d e h = refl
get_or_any (x ∷ xs) (suc k) d e h = get_or_any xs k d e (omega arith)

-- the numbers start to start + n - 1 are elements of `from start n`
pub from_member : (start n k : ℕ) → start ≤ k → k < start + n → Memᴰ k (from start n)
unfolding from
from_member start zero k h b = absurd (omega arith)
from_member start (suc n) k h b =
    elim (dec_le (suc start) k) [
      | yes above ↦ Memᴰ.tail (from_member (suc start) n k above (omega arith))
      | no other ↦ (let same : k ≡ start = omega arith in Memᴰ.head same)
    ]

-- and it has no others
pub member_from : (start n k : ℕ) → Memᴰ k (from start n) → (start ≤ k) × (k < start + n)
unfolding from
member_from start zero k m = absurd (Memᴰ.not-nil m)
member_from start (suc n) k m =
    elim (Memᴰ.cases_cons m) [
      | inl same ↦ omega arith
      | inr later ↦ omega (arith, member_from (suc start) n k later)
    ]

-- it has n elements
pub from_length : (start n : ℕ) → length (from start n) ≡ n
unfolding from
from_length start zero = refl
from_length start (suc n) = ap suc (from_length (suc start) n)

-- element k is start + k
pub get_or_from : (start n k d : ℕ) → k < n → get_or (from start n) k d ≡ start + k
unfolding from
get_or_from start zero k d h = absurd (omega arith)
get_or_from start (suc n) zero d h = omega arith
get_or_from start (suc n) (suc k) d h = get_or_from (suc start) n k d (omega arith) ∙ omega arith

-- the elements of `up_to n` are the numbers below n
pub up_to_member : (n k : ℕ) → Memᴰ k (up_to n) ↔ (k < n)
unfolding up_to
up_to_member n k = (λ m. omega (arith, member_from 0 n k m), λ h. from_member 0 n k (omega arith) (omega arith))

-- it has n elements
pub up_to_length : (n : ℕ) → length (up_to n) ≡ n
unfolding up_to
up_to_length n = from_length 0 n

-- element k is k
pub get_or_up_to : (n k d : ℕ) → k < n → get_or (up_to n) k d ≡ k
unfolding up_to
get_or_up_to n k d h = get_or_from 0 n k d h ∙ omega arith

-- an element of f x, for x an element of xs, is an element of `each xs f`
pub each_member : {A B : Type 0} {x : A} {xs : List A} (f : A → List B) {y : B} → Memᴰ x xs → Memᴰ y (f x)
    → Memᴰ y (each xs f)
unfolding each
each_member f (Memᴰ.head {x} {xs} same) m = Memᴰ.append_left (each xs f) (rw same at m)
each_member f (Memᴰ.tail {x} {xs} n) m = Memᴰ.append_right (f x) (each_member f n m)

-- and it has no others
pub member_each : {A B : Type 0} (xs : List A) (f : A → List B) {y : B} → Memᴰ y (each xs f)
    → (x : A) × Memᴰ x xs × Memᴰ y (f x)
unfolding each
member_each [] f m = absurd (Memᴰ.not-nil m)
member_each (x ∷ xs) f m =
    elim (Memᴰ.append_cases (f x) m) [
      | inl here ↦ (x, Memᴰ.head refl, here)
      | inr later ↦ let r = member_each xs f later in (r.0, Memᴰ.tail r.1, r.2)
    ]

-- ---- one element more at the end

-- the first k + 1 numbers from `start` on are the first k and then the next
pub from_snoc : (start k : ℕ) → from start (suc k) ≡ from start k ++ ((start + k) ∷ [])
unfolding from
from_snoc start zero = ap (λ (n : ℕ). n ∷ []) (omega arith)
from_snoc start (suc k) =
    ap (λ (l : List ℕ). start ∷ l) (from_snoc (suc start) k ∙ ap (λ (n : ℕ). from (suc start) k ++ (n ∷ [])) (omega arith))

pub map_snoc : {A B : Type 0} (f : A → B) (xs : List A) (y : A) → map f (xs ++ (y ∷ [])) ≡ map f xs ++ (f y ∷ [])
map_snoc f [] y = refl
map_snoc f (x ∷ xs) y = ap (λ (l : List _). f x ∷ l) (map_snoc f xs y)

pub each_append : {A B : Type 0} (f : A → List B) (xs ys : List A) → each (xs ++ ys) f ≡ each xs f ++ each ys f
unfolding each
each_append f [] ys = refl
each_append f (x ∷ xs) ys = ap (λ (l : List _). f x ++ l) (each_append f xs ys) ∙ sym (append_assoc (f x) (each xs f) (each ys f))

-- parts listed by an element's image, and a list of images one by one
pub each_map : {A B C : Type 0} (g : A → B) (xs : List A) (f : B → List C) → each (map g xs) f ≡ each xs (λ x. f (g x))
unfolding each
each_map g [] f = refl
each_map g (x ∷ xs) f = ap (λ (ys : List _). f (g x) ++ ys) (each_map g xs f)

pub each_one : {A B : Type 0} (f : A → B) (xs : List A) → map f xs ≡ each xs (λ x. f x ∷ [])
unfolding each
each_one f [] = refl
each_one f (x ∷ xs) = ap (λ (ys : List _). f x ∷ ys) (each_one f xs)
