-- Laws of lists beside those of the task file's: the first and the last element, one element more at the end, the
-- elements of which a test holds, and parts listed by number.
-- Assumes nothing.
use Rattle.std.specs.Prelude.{◌≡◌, refl, ◌⊎◌, ℕ, zero, suc, ◌+◌, ◌<◌, Bool, true, false, ◌||◌, length, get_or, replicate, take, drop, eqb}
use Rattle.std.proofs.Common.{sym, ap, ◌∙◌, ap₂, inl, inr, arith, length-append, eq-eqb, eqb-true}
use Rattle.std.proofs.Math.Decide.{dec_lt}
use Rattle.std.proofs.lemmas.Bool.{false≢true}
use mathlib.Core.List.Memᴰ
use mathlib.Core.List.{List, [], ◌∷◌, ◌++◌, append-nil, map, Memᴰ}
use Rattle.std.proofs.Math.ListN.{get_or-append}
use Rattle.std.proofs.Math.Seq.{get_or-append_seam}
use Rattle.notation.specs.Laws.ListLaws.{from_snoc, each_append}
use Rattle.std.specs.Prelude.{if◌then◌else◌}
use Rattle.notation.specs.Lists.{from, up_to, only, first_or, last_or, each, same, sum}
use Rattle.notation.specs.Ordered.{Every}
use Rattle.notation.specs.Laws.TestLaws.{and_holds, and_both}

-- ---- something or nothing

-- there is something in it
abbrev pub Some : {A : Type 0} → List A → Type 0
Some xs = xs ≡ [] → ⊥

-- a list is empty or not
pub none_or_some : {A : Type 0} (xs : List A) → (xs ≡ []) ⊎ Some xs
none_or_some [] = inl refl
none_or_some (x ∷ xs) = inr (λ e. absurd (let z : suc (length xs) ≡ 0 = ap length e in omega arith))

-- one that is an element and more is not
pub cons_some : {A : Type 0} {x : A} {xs ys : List A} → ys ≡ x ∷ xs → Some ys
cons_some {xs = xs} is e = absurd (let z : suc (length xs) ≡ 0 = ap length (sym is ∙ e) in omega arith)

-- two lists that are nothing together
pub nothing_left : {A : Type 0} (xs ys : List A) → xs ++ ys ≡ [] → (xs ≡ []) × (ys ≡ [])
nothing_left [] ys e = (refl, e)
nothing_left (x ∷ xs) ys e = absurd (omega (arith, ap length e))

-- ---- elements by index

-- a fact at each index is one of every element
pub at_every : {A : Type 0} (P : A → Type 0) (d : A) (xs : List A) → ((k : ℕ) → k < length xs → P (get_or xs k d))
    → Every P xs
at_every P d [] h = tt
at_every P d (x ∷ xs) h = (h 0 (omega arith), at_every P d xs (λ k lt. h (suc k) (omega arith)))

-- a list of the same elements, read with that element as the default
pub replicate_any : {A : Type 0} (n k : ℕ) (d : A) → get_or (replicate n d) k d ≡ d
replicate_any zero k d = refl
replicate_any (suc n) zero d = refl
replicate_any (suc n) (suc k) d = replicate_any n k d

-- ---- the last element

-- the last of suc q elements is the one at q
pub last_at : {A : Type 0} (d e : A) (xs : List A) (q : ℕ) → length xs ≡ suc q → last_or d xs ≡ get_or xs q e
unfolding last_or
last_at d e [] q long = absurd (omega arith)
last_at d e (x ∷ []) zero long = refl
last_at d e (x ∷ []) (suc q) long = absurd (omega arith)
last_at d e (x ∷ y ∷ xs) zero long = absurd (omega arith)
last_at d e (x ∷ y ∷ xs) (suc q) long = last_at x e (y ∷ xs) q (omega arith)

-- and of none there is no last
pub last_none : {A : Type 0} (d : A) (xs : List A) → length xs ≡ 0 → last_or d xs ≡ d
unfolding last_or
last_none d [] none = refl
last_none d (x ∷ xs) none = absurd (omega arith)

-- ---- one element more at the end

-- with y at its end, y is the last, the first of no others, and one more
pub last_snoc : {A : Type 0} (d : A) (xs : List A) (y : A) → last_or d (xs ++ (y ∷ [])) ≡ y
unfolding last_or
last_snoc d [] y = refl
last_snoc d (x ∷ xs) y = last_snoc x xs y

pub first_snoc_none : {A : Type 0} (d : A) (xs : List A) (y : A) → length xs ≡ 0 → first_or d (xs ++ (y ∷ [])) ≡ y
unfolding first_or
first_snoc_none d [] y e = refl
first_snoc_none d (x ∷ xs) y e = absurd (omega arith)

pub first_snoc_some : {A : Type 0} (d : A) (xs : List A) (y : A) → 0 < length xs
    → first_or d (xs ++ (y ∷ [])) ≡ first_or d xs
unfolding first_or
first_snoc_some d [] y h = absurd (omega arith)
first_snoc_some d (x ∷ xs) y h = refl

pub length_snoc : {A : Type 0} (xs : List A) (y : A) → length (xs ++ (y ∷ [])) ≡ suc (length xs)
length_snoc xs y = length-append xs (y ∷ []) ∙ omega arith

-- an element of a list with y at its end is an element of the list, or y
pub snoc_at : {A : Type 0} (xs : List A) (y : A) (k : ℕ) (d : A) → k < length (xs ++ (y ∷ []))
    → ((k < length xs) × (get_or (xs ++ (y ∷ [])) k d ≡ get_or xs k d)) ⊎ (get_or (xs ++ (y ∷ [])) k d ≡ y)
snoc_at xs y k d lt =
    elim (dec_lt k (length xs)) [
      | yes below ↦ inl (below, get_or-append xs (y ∷ []) d k below)
      | no above ↦
          let same : k ≡ length xs = omega (arith, length_snoc xs y) in
          inr (ap (λ (n : ℕ). get_or (xs ++ (y ∷ [])) n d) same ∙ get_or-append_seam xs y [] d)
    ]

-- ---- the elements of which a test holds

-- the first element is kept or not
pub only_in : {A : Type 0} (test : A → Bool) (x : A) (xs : List A) → test x ≡ true
    → only test (x ∷ xs) ≡ x ∷ only test xs
unfolding only
only_in test x xs e = rw e refl

pub only_out : {A : Type 0} (test : A → Bool) (x : A) (xs : List A) → test x ≡ false → only test (x ∷ xs) ≡ only test xs
unfolding only
only_out test x xs e = rw e refl

-- those kept of two lists are those of the first, then those of the second
pub only_append : {A : Type 0} (test : A → Bool) (xs ys : List A) → only test (xs ++ ys) ≡ only test xs ++ only test ys
unfolding only
only_append test [] ys = refl
only_append {A} test (x ∷ xs) ys = go (test x) (only_append test xs ys)
  where
    go : (b : Bool) → only test (xs ++ ys) ≡ only test xs ++ only test ys
        → (if b then x ∷ only test (xs ++ ys) else only test (xs ++ ys))
        ≡ (if b then x ∷ only test xs else only test xs) ++ only test ys
    go true e = ap (λ (l : List A). x ∷ l) e
    go false e = e

-- a test that holds of every element keeps them all, and one that holds of none keeps nothing
pub only_all : {A : Type 0} (test : A → Bool) (xs : List A) → Every (λ x. test x ≡ true) xs → only test xs ≡ xs
unfolding only
only_all test [] h = refl
only_all test (x ∷ xs) h = rw h.0 (ap (λ (l : List _). x ∷ l) (only_all test xs h.1))

pub only_none : {A : Type 0} (test : A → Bool) (xs : List A) → Every (λ x. test x ≡ false) xs → only test xs ≡ []
unfolding only
only_none test [] h = refl
only_none test (x ∷ xs) h = rw h.0 (only_none test xs h.1)

-- the same by index
pub only_every : {A : Type 0} (test : A → Bool) (d : A) (xs : List A)
    → ((k : ℕ) → k < length xs → test (get_or xs k d) ≡ true) → only test xs ≡ xs
only_every test d xs h = only_all test xs (at_every (λ x. test x ≡ true) d xs h)

-- one that does not hold of the last drops it
pub only_drops : {A : Type 0} (test : A → Bool) (xs : List A) (y : A) → test y ≡ false
    → only test (xs ++ (y ∷ [])) ≡ only test xs
unfolding only
only_drops {A} test xs y e =
    let none : only test (y ∷ []) ≡ [] = rw e refl in
    only_append test xs (y ∷ []) ∙ ap (λ (l : List A). only test xs ++ l) none ∙ append-nil (only test xs)

-- ---- parts listed by number

-- the parts of the first n + 1 numbers are those of the first n and then the next one's
pub each_snoc : {A : Type 0} (n : ℕ) (f : ℕ → List A) → each (up_to (suc n)) f ≡ each (up_to n) f ++ f n
unfolding each up_to
each_snoc {A} n f =
    ap (λ (l : List ℕ). each l f) (from_snoc 0 n)
    ∙ each_append f (from 0 n) ((0 + n) ∷ [])
    ∙ ap (λ (l : List A). each (from 0 n) f ++ l) (append-nil (f (0 + n)) ∙ ap f (omega arith))

-- the same part for each number below n
pub each_same : {A : Type 0} (n : ℕ) (f g : ℕ → List A) → ((k : ℕ) → k < n → f k ≡ g k)
    → each (up_to n) f ≡ each (up_to n) g
unfolding each up_to from
each_same zero f g h = refl
each_same {A} (suc n) f g h =
    each_snoc n f
    ∙ ap (λ (l : List A). l ++ f n) (each_same n f g (λ k lt. h k (omega arith)))
    ∙ ap (λ (l : List A). each (up_to n) g ++ l) (h n (omega arith))
    ∙ sym (each_snoc n g)

-- ---- tests

-- a test or one that fails
pub or_none : (b c : Bool) → c ≡ false → (b || c) ≡ b
or_none true c e = refl
or_none false c e = e

-- the first and the last element, by what a function says of each
pub first_map : {A B : Type 0} (f : A → B) (d : A) (xs : List A) → f (first_or d xs) ≡ first_or (f d) (map f xs)
unfolding first_or
first_map f d [] = refl
first_map f d (x ∷ xs) = refl

pub last_map : {A B : Type 0} (f : A → B) (d : A) (xs : List A) → f (last_or d xs) ≡ last_or (f d) (map f xs)
unfolding last_or
last_map f d [] = refl
last_map f d (x ∷ xs) = last_map f x xs

-- a list is the same as itself
pub same_refl : (xs : List ℕ) → same xs xs ≡ true
unfolding same
same_refl [] = refl
same_refl (x ∷ xs) = and_holds (eqb x x) _ (eq-eqb x x refl) (same_refl xs)

-- the elements that are kept are elements
pub member_only : {A : Type 0} (test : A → Bool) (xs : List A) {x : A} → Memᴰ x (only test xs) → Memᴰ x xs
unfolding only
member_only test [] m = absurd (Memᴰ.not-nil m)
member_only test (y ∷ ys) {x} m = go (test y) m (λ n. member_only test ys n)
  where
    go : (b : Bool) → Memᴰ x (if b then y ∷ only test ys else only test ys)
        → (Memᴰ x (only test ys) → Memᴰ x ys) → Memᴰ x (y ∷ ys)
    go true m later =
        elim (Memᴰ.cases_cons m) [ inl here ↦ Memᴰ.head here | inr there ↦ Memᴰ.tail (later there) ]
    go false m later = Memᴰ.tail (later m)

-- an element of which the test holds is kept
pub only_member : {A : Type 0} (test : A → Bool) {x : A} {xs : List A} → Memᴰ x xs → test x ≡ true
    → Memᴰ x (only test xs)
unfolding only
only_member test (Memᴰ.head {x = y} e) h =
    let holds : test y ≡ true = ap test (sym e) ∙ h in rw holds (Memᴰ.head e)
only_member test {x} (Memᴰ.tail {x = y} {xs = ys} m) h = go (test y) (only_member test m h)
  where
    go : (b : Bool) → Memᴰ x (only test ys) → Memᴰ x (if b then y ∷ only test ys else only test ys)
    go true n = Memᴰ.tail n
    go false n = n

-- lists that are the same element by element are equal
pub same_equal : (xs ys : List ℕ) → same xs ys ≡ true → xs ≡ ys
unfolding same
same_equal [] [] h = refl
same_equal [] (y ∷ ys) h = absurd (false≢true h)
same_equal (x ∷ xs) [] h = absurd (false≢true h)
same_equal (x ∷ xs) (y ∷ ys) h =
    let parts = and_both (eqb x y) (same xs ys) h in
    ap₂ (λ (n : ℕ) (l : List ℕ). n ∷ l) (eqb-true x y parts.0) (same_equal xs ys parts.1)

-- the images of the first n elements, and of those behind them
pub map_take : {A B : Type 0} (f : A → B) (n : ℕ) (xs : List A) → map f (take n xs) ≡ take n (map f xs)
map_take f zero xs = refl
map_take f (suc n) [] = refl
map_take f (suc n) (x ∷ xs) = ap (λ (l : List _). f x ∷ l) (map_take f n xs)

pub map_drop : {A B : Type 0} (f : A → B) (n : ℕ) (xs : List A) → map f (drop n xs) ≡ drop n (map f xs)
map_drop f zero xs = refl
map_drop f (suc n) [] = refl
map_drop f (suc n) (x ∷ xs) = map_drop f n xs

-- ---- where a list is cut

-- where a list is cut: after as many elements as ys has, at one that f takes to z
pub record CutAt {A B : Type 0} (f : A → B) (xs : List A) (ys : List B) (z : B) : Type 0 where
  pub before : List A
  pub here : A
  pub after : List A
  pub parts : xs ≡ before ++ (here ∷ after)
  pub as_many : length before ≡ length ys
  pub same : f here ≡ z

-- with one element more in front
pub cut_more : {A B : Type 0} (f : A → B) {xs : List A} {ys : List B} {z : B} (x : A) (y : B) → CutAt f xs ys z
    → CutAt f (x ∷ xs) (y ∷ ys) z
cut_more {A} f x y at =
    record {
      before = x ∷ at.before;
      here = at.here;
      after = at.after;
      parts = ap (λ (l : List A). x ∷ l) at.parts;
      as_many = ap suc at.as_many;
      same = at.same;
    }

-- a cut of a mapped list is one of the list
pub map_cut : {A B : Type 0} (f : A → B) (xs : List A) (ys zs : List B) (z : B) → map f xs ≡ ys ++ (z ∷ zs)
    → CutAt f xs ys z
map_cut f [] [] zs z e = absurd (omega (arith, ap length e))
map_cut f [] (y ∷ ys) zs z e = absurd (omega (arith, ap length e))
map_cut f (x ∷ xs) [] zs z e =
    record { before = []; here = x; after = xs; parts = refl; as_many = refl; same = cc }
map_cut f (x ∷ xs) (y ∷ ys) zs z e =
    let tail : map f xs ≡ ys ++ (z ∷ zs) = cc in
    cut_more f x y (map_cut f xs ys zs z tail)

-- as many elements are kept of a mapped list as of the list
pub only_mapped : {A B : Type 0} (f : A → B) (test : B → Bool) (xs : List A)
    → length (only (λ x. test (f x)) xs) ≡ length (only test (map f xs))
unfolding only
only_mapped f test [] = refl
only_mapped f test (x ∷ xs) = go (test (f x)) (only_mapped f test xs)
  where
    go : (b : Bool) → length (only (λ x. test (f x)) xs) ≡ length (only test (map f xs))
        → length (if b then x ∷ only (λ x. test (f x)) xs else only (λ x. test (f x)) xs)
        ≡ length (if b then f x ∷ only test (map f xs) else only test (map f xs))
    go true e = ap suc e
    go false e = e

-- ---- by index, and how many

-- numbers from the next on are the numbers from here on, each with one more
pub shifted : {B : Type 0} (f : ℕ → B) (start n : ℕ) → map f (from (suc start) n) ≡ map (λ k. f (suc k)) (from start n)
unfolding from
shifted f start zero = refl
shifted f start (suc n) = ap (λ (l : List _). f (suc start) ∷ l) (shifted f (suc start) n)

-- a list's elements, read by their indices
pub by_index : {A B : Type 0} (g : A → B) (d : A) (xs : List A)
    → map (λ k. g (get_or xs k d)) (up_to (length xs)) ≡ map g xs
unfolding up_to from
by_index g d [] = refl
by_index g d (x ∷ xs) = ap (λ (l : List _). g x ∷ l) (shifted (λ k. g (get_or (x ∷ xs) k d)) 0 (length xs) ∙ by_index g d xs)

-- parts joined are as long as the parts
pub each_length : {A B : Type 0} (f : A → List B) (xs : List A) → length (each xs f) ≡ sum (map (λ x. length (f x)) xs)
unfolding each sum
each_length f [] = refl
each_length f (x ∷ xs) = length-append (f x) (each xs f) ∙ ap (λ (n : ℕ). length (f x) + n) (each_length f xs)

-- an image of an image
pub map_map : {A B C : Type 0} (g : B → C) (f : A → B) (xs : List A) → map g (map f xs) ≡ map (λ x. g (f x)) xs
map_map g f [] = refl
map_map g f (x ∷ xs) = ap (λ (l : List _). g (f x) ∷ l) (map_map g f xs)
