-- Where an element stands in a list.
-- Assumes nothing.
use Rattle.std.specs.Prelude.{ℕ, suc, Bool, List, [], ◌∷◌, eqb}
use Rattle.std.specs.Prelude.{if◌then◌else◌}

-- where the first element stands of which the test holds, from 0; past the end where there is none
unfoldable pub position_where : {A : Type 0} → (A → Bool) → List A → ℕ
position_where test [] = 0
position_where test (x ∷ xs) = if test x then 0 else suc (position_where test xs)

-- where a number stands
abbrev pub position_of : ℕ → List ℕ → ℕ
position_of x xs = position_where (eqb x) xs
