-- Numbers in decimal, and lines of words. A text is a list of bytes.
-- Assumes nothing.
use Rattle.std.specs.Prelude.{ℕ, zero, suc, ◌+◌, ◌/◌, ◌%◌, List, [], ◌∷◌, ◌++◌, ltb}
use Rattle.std.specs.Prelude.{if◌then◌else◌}
use Rattle.notation.specs.Letters.{space, newline, d0}

abbrev pub Text : Type 0
Text = List ℕ

-- ---- numbers

-- the digit n, below 10
unfoldable pub digit : ℕ → ℕ
digit n = d0 + n

-- the last `most` digits of a number, without leading zeros
unfoldable pub digits : ℕ → ℕ → Text
digits zero n = []
digits (suc most) n = if ltb n 10 then digit n ∷ [] else digits most (n / 10) ++ (digit (n % 10) ∷ [])

-- a number in decimal: those of 64 bits have at most 20 digits
unfoldable pub decimal : ℕ → Text
decimal n = digits 20 n

-- ---- lines

-- words with one space between two of them
unfoldable pub spaced : Text → List Text → Text
spaced word [] = word
spaced word (next ∷ words) = word ++ (space ∷ spaced next words)

-- a line of words, ended by a newline
unfoldable pub line : Text → List Text → Text
line word words = spaced word words ++ (newline ∷ [])
