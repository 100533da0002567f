-- Short words for lists and choices that the definitions of every section use. How a definition is read:
--   `f x y` is the function f of x and y; `(x : A) → B` says B of each x of A; `λ x. b` is the function that yields b
--   `elim x [ p ↦ a | q ↦ b ]` is a where x has the form p, and b where it has the form q
--   `r.field` is a field of r; `i.0` is the number of a task, a job or a round, and `p.0`, `p.1` a pair's parts
--   `[]`, `x ∷ xs`, `xs ++ ys` are no elements, x and then xs, xs and then ys; `get_or xs k d` is element k, else d
--   `A × B`, `A ⊎ B`, `A ↔ B` say both, one of the two, each if the other; `(x : A) × B` that B holds of some x of A
--   `leb a b`, `ltb a b`, `eqb a b` test that a is at most b, below b, equal to b; `suc n` is one more than n
--   `a - b` stops at zero, and `/` and `%` are the quotient and the rest
--   `unfoldable` is before a definition that a proof opens by name, `abbrev` before a name that is its text everywhere
--   "Assumes nothing" says that a file has no axiom: what it states is defined or proved
-- Assumes nothing.
use Rattle.std.specs.Prelude.{if◌then◌else◌, ℕ, zero, suc, max, ◌+◌, ◌-◌, Bool, true, false, ◌&&◌, ◌||◌, List, [], ◌∷◌, ◌++◌, map, get_or, take, replicate, eqb}
use Rattle.std.proofs.Math.Option.{Option, none, some}

-- n numbers from `start` on
unfoldable pub from : ℕ → ℕ → List ℕ
from start zero = []
from start (suc n) = start ∷ from (suc start) n

-- 0 to n - 1
unfoldable pub up_to : ℕ → List ℕ
up_to n = from 0 n

-- `first` to `last`, both among them; none where `last` is below `first`
unfoldable pub from_to : ℕ → ℕ → List ℕ
from_to first last = from first (suc last - first)

-- is the number in the list?
unfoldable pub member : ℕ → List ℕ → Bool
member x [] = false
member x (y ∷ ys) = eqb x y || member x ys

-- does the test hold of every element?
unfoldable pub all : {A : Type 0} → (A → Bool) → List A → Bool
all test [] = true
all test (x ∷ xs) = test x && all test xs

-- does it hold of some element?
unfoldable pub any : {A : Type 0} → (A → Bool) → List A → Bool
any test [] = false
any test (x ∷ xs) = test x || any test xs

-- the elements of which the test holds
unfoldable pub only : {A : Type 0} → (A → Bool) → List A → List A
only test [] = []
only test (x ∷ xs) = if test x then x ∷ only test xs else only test xs

-- the first element of which the test holds
unfoldable pub first_with : {A : Type 0} → (A → Bool) → List A → Option A
first_with test [] = none
first_with test (x ∷ xs) = if test x then some x else first_with test xs

-- one list for each element, joined
unfoldable pub each : {A B : Type 0} → List A → (A → List B) → List B
each [] f = []
each (x ∷ xs) f = f x ++ each xs f

-- are the two lists the same, element by element?
unfoldable pub same : List ℕ → List ℕ → Bool
same [] [] = true
same [] (y ∷ ys) = false
same (x ∷ xs) [] = false
same (x ∷ xs) (y ∷ ys) = eqb x y && same xs ys

-- the first and the last element, or d where there is none
unfoldable pub first_or : {A : Type 0} → A → List A → A
first_or d [] = d
first_or d (x ∷ xs) = x

unfoldable pub last_or : {A : Type 0} → A → List A → A
last_or d [] = d
last_or d (x ∷ xs) = last_or x xs

unfoldable pub sum : List ℕ → ℕ
sum [] = 0
sum (x ∷ xs) = x + sum xs

-- the largest number of the list, or 0 where there is none
unfoldable pub largest : List ℕ → ℕ
largest [] = 0
largest (x ∷ xs) = max x (largest xs)

-- the n numbers of the list from place a on
unfoldable pub bytes_at : List ℕ → ℕ → ℕ → List ℕ
bytes_at bytes a n = map (λ k. get_or bytes (a + k) 0) (up_to n)

-- the list as an array of n elements: filled up with x, cut if it is longer
unfoldable pub padded : {A : Type 0} → ℕ → A → List A → List A
padded n x xs = take n (xs ++ replicate n x)
