-- The numbers of a line after its word, as the functions write them.
-- Assumes nothing.
use Rattle.std.specs.Prelude.{ℕ, List, ◌∷◌}
use Rattle.notation.specs.Letters.{space}
use Rattle.notation.specs.Lists.{each}
use Rattle.notation.specs.Texts.{Text, decimal}

-- numbers, with a space before each
unfoldable pub spaced_numbers : List ℕ → Text
spaced_numbers ns = each ns (λ n. space ∷ decimal n)
