-- Bytes written into the room at the front of a lent buffer, as the functions write them.
-- Assumes nothing.
use Rattle.std.specs.Prelude.{◌≡◌, ℕ, ◌+◌, ◌-◌, List, ◌++◌, length, take, drop, replicate}

-- The bytes were written from a place of the room on, as many of them as it holds, and n is the next place. Nothing
-- else of the buffer has changed.
pub record Appends (room : ℕ) (before : List ℕ) (at : ℕ) (bytes after : List ℕ) (n : ℕ) : Type 0 where
  pub next : n ≡ at + length (take (room - at) bytes)
  pub is : after ≡ take at before ++ (take (room - at) bytes ++ drop n before)

-- the bytes of the room from one on are zero, and all others are kept
abbrev pub cleared_from : ℕ → ℕ → List ℕ → List ℕ
cleared_from room n buffer = take n buffer ++ (replicate (room - n) 0 ++ drop room buffer)
