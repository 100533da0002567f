-- How long texts are: numbers, words with spaces between them, and lines that are joined.
-- Assumes nothing.
use Rattle.std.specs.Prelude.{ℕ, zero, suc, ◌+◌, ◌*◌, ◌/◌, ◌%◌, ◌≤◌, ◌<◌, Bool, true, false, List, [], ◌∷◌, ◌++◌, map, length, get_or, ltb}
use Rattle.std.proofs.Common.{suc-mul, arith, length-append}
use Rattle.std.specs.Prelude.{if◌then◌else◌}
use Rattle.notation.specs.Lists.{only, each, sum}
use Rattle.notation.specs.Ordered.{Every}
use Rattle.notation.specs.Texts.{Text, digit, digits, decimal, spaced, line}

-- ---- lists

-- lists of at most b elements each, joined
pub each_most : {A B : Type 0} (b : ℕ) (f : A → List B) (xs : List A) → Every (λ x. length (f x) ≤ b) xs
    → length (each xs f) ≤ length xs * b
unfolding each
each_most b f [] h = omega arith
each_most b f (x ∷ xs) h =
    omega (arith, length-append (f x) (each xs f), h.0, each_most b f xs h.1, suc-mul (length xs) b)

-- a choice among elements keeps what holds of each, and has no more of them
pub only_most : {A : Type 0} (P : A → Type 0) (test : A → Bool) (xs : List A) → Every P xs
    → Every P (only test xs) × (length (only test xs) ≤ length xs)
unfolding only
only_most P test [] h = (tt, omega arith)
only_most {A} P test (x ∷ xs) h = go (test x) (only_most P test xs h.1)
  where
    go : (b : Bool) → Every P (only test xs) × (length (only test xs) ≤ length xs)
        → Every P (if b then x ∷ only test xs else only test xs)
        × (length (if b then x ∷ only test xs else only test xs) ≤ suc (length xs))
    go true later = ((h.0, later.0), omega (arith, later.1))
    go false later = (later.0, omega (arith, later.1))

-- a part is at most the sum
pub sum_part : {A : Type 0} (f : A → ℕ) (xs : List A) (k : ℕ) (d : A) → k < length xs
    → f (get_or xs k d) ≤ sum (map f xs)
unfolding sum
sum_part f [] k d lt = absurd (omega arith)
sum_part f (x ∷ xs) zero d lt = omega arith
sum_part f (x ∷ xs) (suc k) d lt = omega (arith, sum_part f xs k d (omega arith))

-- ---- numbers

digits_most : (most n : ℕ) → length (digits most n) ≤ most
unfolding digits
digits_most zero n = omega arith
digits_most (suc most) n = go (ltb n 10) (digits_most most (n / 10))
  where
    go : (b : Bool) → length (digits most (n / 10)) ≤ most
        → length (if b then digit n ∷ [] else digits most (n / 10) ++ (digit (n % 10) ∷ [])) ≤ suc most
    go true later = omega arith
    go false later = omega (arith, length-append (digits most (n / 10)) (digit (n % 10) ∷ []), later)

-- any number at all
pub decimal_most : (n : ℕ) → length (decimal n) ≤ 20
unfolding decimal
decimal_most n = digits_most 20 n

-- ---- lines

-- words shorter than b, each with a space before it
pub spaced_most : (b : ℕ) (word : Text) (words : List Text) → Every (λ w. length w < b) words
    → length (spaced word words) ≤ length word + length words * b
unfolding spaced
spaced_most b word [] h = omega arith
spaced_most b word (next ∷ words) h =
    omega (
      arith,
      length-append word (32 ∷ spaced next words),
      h.0,
      spaced_most b next words h.1,
      suc-mul (length words) b,
    )

pub line_most : (b : ℕ) (word : Text) (words : List Text) → Every (λ w. length w < b) words
    → length (line word words) ≤ length word + length words * b + 1
unfolding line
line_most b word words h = omega (arith, length-append (spaced word words) (10 ∷ []), spaced_most b word words h)
