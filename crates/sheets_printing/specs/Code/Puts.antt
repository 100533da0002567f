-- Bytes written into a lent text, as the functions write them.
-- Assumes nothing.
use Rattle.std.specs.Prelude.{ℕ, length}
use Rattle.notation.specs.Texts.{Text}
use Rattle.notation_buffers.specs.Code.Writing.{Appends}

-- The bytes were written from a place of the text on, as many of them as it has room for, and n is the next place.
abbrev pub PutsText : Text → ℕ → Text → Text → ℕ → Type 0
PutsText before at bytes after n = Appends (length before) before at bytes after n
