-- Laws of sums of a list: a bound for each element, and elements that fall.
-- Assumes nothing.
use Rattle.std.specs.Prelude.{ℕ, zero, suc, ◌*◌, ◌≤◌, ◌<◌, List, [], ◌∷◌, map, length, get_or}
use Rattle.std.proofs.Common.{arith}
use Rattle.notation.specs.Lists.{sum}

-- a sum of parts of at most 16 each
pub sum_most : {A : Type 0} (f : A → ℕ) → ((x : A) → f x ≤ 16) → (xs : List A) → sum (map f xs) ≤ 16 * length xs
unfolding sum
sum_most f most [] = omega arith
sum_most f most (x ∷ xs) = omega (arith, most x, sum_most f most xs)

-- a sum no part of which rises does not rise, and where a part falls it falls
pub sum_kept : {A : Type 0} (f g : A → ℕ) → ((x : A) → f x ≤ g x) → (xs : List A) → sum (map f xs) ≤ sum (map g xs)
unfolding sum
sum_kept f g kept [] = omega arith
sum_kept f g kept (x ∷ xs) = omega (arith, kept x, sum_kept f g kept xs)

pub sum_falls : {A : Type 0} (f g : A → ℕ) → ((x : A) → f x ≤ g x) → (xs : List A) (k : ℕ) (d : A) → k < length xs
    → f (get_or xs k d) < g (get_or xs k d) → sum (map f xs) < sum (map g xs)
unfolding sum
sum_falls f g kept [] k d lt falls = absurd (omega arith)
sum_falls f g kept (x ∷ xs) zero d lt falls = omega (arith, sum_kept f g kept xs)
sum_falls f g kept (x ∷ xs) (suc k) d lt falls = omega (arith, kept x, sum_falls f g kept xs k d (omega arith) falls)
