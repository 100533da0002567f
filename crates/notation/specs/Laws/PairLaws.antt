-- Laws of lists by their elements: a fact of every element, and a relation of every element to each later one.
-- Assumes nothing.
use Rattle.std.specs.Prelude.{ℕ, zero, suc, ◌+◌, ◌≤◌, ◌<◌, length, get_or, refl}
use Rattle.std.proofs.Common.{not-suc-le-zero, le_of_suc-le-suc, arith, sym, subst}
use mathlib.Core.List.{List, [], ◌∷◌, ◌++◌, map, Memᴰ}
use Rattle.notation.specs.Lists.{from, each}
use Rattle.notation.specs.Ordered.{Every, Ordered}

pub every_at : {A : Type 0} (P : A → Type 0) (xs : List A) (k : ℕ) (d : A) → Every P xs → k < length xs
    → P (get_or xs k d)
every_at P [] k d h lt = absurd (not-suc-le-zero lt)
every_at P (x ∷ xs) zero d h lt = h.0
every_at P (x ∷ xs) (suc k) d h lt = every_at P xs k d h.1 (le_of_suc-le-suc lt)

-- of an element, and of what stands in for one past the last
pub every_get_or : {A : Type 0} (P : A → Type 0) (xs : List A) (k : ℕ) (d : A) → Every P xs → P d → P (get_or xs k d)
every_get_or P [] k d h past = past
every_get_or P (x ∷ xs) zero d h past = h.0
every_get_or P (x ∷ xs) (suc k) d h past = every_get_or P xs k d h.1 past

pub ordered_at : {A : Type 0} (R : A → A → Type 0) (xs : List A) (j k : ℕ) (d : A) → Ordered R xs → j < k
    → k < length xs → R (get_or xs j d) (get_or xs k d)
ordered_at R [] j k d h lt below = absurd (not-suc-le-zero below)
ordered_at R (x ∷ xs) j zero d h lt below = absurd (not-suc-le-zero lt)
ordered_at R (x ∷ xs) zero (suc k) d h lt below = every_at (R x) xs k d h.0 (le_of_suc-le-suc below)
ordered_at R (x ∷ xs) (suc j) (suc k) d h lt below =
    ordered_at R xs j k d h.1 (le_of_suc-le-suc lt) (le_of_suc-le-suc below)

pub every_of : {A : Type 0} (P : A → Type 0) → ((x : A) → P x) → (xs : List A) → Every P xs
every_of P h [] = tt
every_of P h (x ∷ xs) = (h x, every_of P h xs)

pub every_imp : {A : Type 0} (P Q : A → Type 0) → ((x : A) → P x → Q x) → (xs : List A) → Every P xs → Every Q xs
every_imp P Q imp [] h = tt
every_imp P Q imp (x ∷ xs) h = (imp x h.0, every_imp P Q imp xs h.1)

pub every_append : {A : Type 0} (P : A → Type 0) (xs ys : List A) → Every P xs → Every P ys → Every P (xs ++ ys)
every_append P [] ys h k = k
every_append P (x ∷ xs) ys h k = (h.0, every_append P xs ys h.1 k)

pub ordered_append : {A : Type 0} (R : A → A → Type 0) (xs ys : List A) → Ordered R xs → Ordered R ys
    → Every (λ x. Every (R x) ys) xs → Ordered R (xs ++ ys)
ordered_append R [] ys h k across = k
ordered_append R (x ∷ xs) ys h k across =
    (every_append (R x) xs ys h.0 across.0, ordered_append R xs ys h.1 k across.1)

pub every_map : {A B : Type 0} (P : B → Type 0) (f : A → B) (xs : List A) → Every (λ x. P (f x)) xs → Every P (map f xs)
every_map P f [] h = tt
every_map P f (x ∷ xs) h = (h.0, every_map P f xs h.1)

pub ordered_map : {A B : Type 0} (R : B → B → Type 0) (f : A → B) (xs : List A) → Ordered (λ x y. R (f x) (f y)) xs
    → Ordered R (map f xs)
ordered_map R f [] h = tt
ordered_map R f (x ∷ xs) h = (every_map (R (f x)) f xs h.0, ordered_map R f xs h.1)

pub ordered_imp : {A : Type 0} (R S : A → A → Type 0) → ((x y : A) → R x y → S x y) → (xs : List A) → Ordered R xs
    → Ordered S xs
ordered_imp R S imp [] h = tt
ordered_imp R S imp (x ∷ xs) h = (every_imp (R x) (S x) (imp x) xs h.0, ordered_imp R S imp xs h.1)

-- the n numbers from `start` on are at least that and below `start + n`, and rise
pub from_within : (start n : ℕ) → Every (λ k. (start ≤ k) × (k < start + n)) (from start n)
unfolding from
from_within start zero = tt
from_within start (suc n) = (
  omega arith,
  every_imp (λ k. (suc start ≤ k) × (k < suc start + n)) (λ k. (start ≤ k) × (k < start + suc n)) (λ k h. omega arith)
      (from (suc start) n) (from_within (suc start) n),
)

pub from_rises : (start n : ℕ) → Ordered ◌<◌ (from start n)
unfolding from
from_rises start zero = tt
from_rises start (suc n) = (
  every_imp (λ k. (suc start ≤ k) × (k < suc start + n)) (λ k. start < k) (λ k h. h.0) (from (suc start) n)
      (from_within (suc start) n),
  from_rises (suc start) n,
)

-- a fact of every element of every part is one of every element of the parts joined
pub every_each : {A B : Type 0} (P : B → Type 0) (f : A → List B) (xs : List A) → Every (λ x. Every P (f x)) xs
    → Every P (each xs f)
unfolding each
every_each P f [] h = tt
every_each P f (x ∷ xs) h = every_append P (f x) (each xs f) h.0 (every_each P f xs h.1)

-- elements that are related to those of each part are related to those of the parts joined
every_across : {A B : Type 0} (R : B → B → Type 0) (f : A → List B) (bs : List B) (ys : List A)
    → Every (λ y. Every (λ b. Every (R b) (f y)) bs) ys → Every (λ b. Every (R b) (each ys f)) bs
every_across R f [] ys h = tt
every_across R f (b ∷ bs) ys h = (
  every_each (R b) f ys (every_imp (λ y. Every (λ b. Every (R b) (f y)) (b ∷ bs)) (λ y. Every (R b) (f y)) (λ y g. g.0) ys h),
  every_across R f bs ys
      (every_imp (λ y. Every (λ b. Every (R b) (f y)) (b ∷ bs)) (λ y. Every (λ b. Every (R b) (f y)) bs) (λ y g. g.1) ys h),
)

-- parts that are ordered, and whose elements are related across parts, make an ordered list
pub ordered_each : {A B : Type 0} (R : B → B → Type 0) (f : A → List B) (xs : List A) → Every (λ x. Ordered R (f x)) xs
    → Ordered (λ x y. Every (λ b. Every (R b) (f y)) (f x)) xs → Ordered R (each xs f)
unfolding each
ordered_each R f [] h k = tt
ordered_each R f (x ∷ xs) h k =
    ordered_append R (f x) (each xs f) h.0 (ordered_each R f xs h.1 k.1) (every_across R f (f x) xs k.0)

-- elements of a kind whose elements are all related
pub every_ordered : {A : Type 0} (P : A → Type 0) (R : A → A → Type 0) → ((x y : A) → P x → P y → R x y)
    → (xs : List A) → Every P xs → Ordered R xs
every_ordered P R imp [] all = tt
every_ordered P R imp (x ∷ xs) all =
    (every_imp P (R x) (λ y isP. imp x y all.0 isP) xs all.1, every_ordered P R imp xs all.1)

-- an element in the middle has what every element has
pub every_middle : {A : Type 0} (P : A → Type 0) (xs : List A) (y : A) (ys : List A) → Every P (xs ++ (y ∷ ys)) → P y
every_middle P [] y ys all = all.0
every_middle P (x ∷ xs) y ys all = every_middle P xs y ys all.1

-- in order, those before an element are related to it, and it to those behind
pub ordered_split : {A : Type 0} (R : A → A → Type 0) (xs : List A) (y : A) (ys : List A) → Ordered R (xs ++ (y ∷ ys))
    → Every (λ x. R x y) xs × Every (R y) ys
ordered_split R [] y ys all = (tt, all.0)
ordered_split R (x ∷ xs) y ys all =
    let later = ordered_split R xs y ys all.1 in
    ((every_middle (R x) xs y ys all.0, later.0), later.1)

-- what every image has, every element has of its image
pub every_unmap : {A B : Type 0} (P : B → Type 0) (f : A → B) (xs : List A) → Every P (map f xs)
    → Every (λ x. P (f x)) xs
every_unmap P f [] h = tt
every_unmap P f (x ∷ xs) h = (h.0, every_unmap P f xs h.1)

-- what holds of each element by its place holds of every element
pub every_listed : {A : Type 0} (P : A → Type 0) (xs : List A) → ((x : A) → Memᴰ x xs → P x) → Every P xs
every_listed P [] h = tt
every_listed P (x ∷ xs) h = (h x (Memᴰ.head refl), every_listed P xs (λ y m. h y (Memᴰ.tail m)))

-- an element has what every element has
pub every_member : {A : Type 0} (P : A → Type 0) {x : A} (xs : List A) → Every P xs → Memᴰ x xs → P x
every_member P _ h (Memᴰ.head same) = subst P (sym same) h.0
every_member P _ h (Memᴰ.tail {x} {xs} m) = every_member P xs h.1 m
