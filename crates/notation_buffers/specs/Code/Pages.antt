-- What is written on a page: a lent buffer and the place in it of the next byte.
-- Assumes nothing.
use Rattle.std.specs.Prelude.{◌≡◌, ℕ, List, length, take}
use Rattle.notation.specs.Lists.{padded}
use Rattle.notation_buffers.specs.declared.pages.Page.{Page}
use Rattle.notation_buffers.specs.Code.Writing.{Appends, cleared_from}

-- The bytes were written on a page, as many of them as it has room for. It stays over the same buffer.
pub record Puts (before : Page) (bytes : List ℕ) (after : Page) : Type 0 where
  pub same : after.bytes.ghost_name ≡ before.bytes.ghost_name
  pub puts : Appends (length before.bytes.now) before.bytes.now before.at bytes after.bytes.now after.at

-- What a page has room for after its last byte is zeros.
pub record Clears (before after : Page) : Type 0 where
  pub same : after.bytes.ghost_name ≡ before.bytes.ghost_name
  pub place : after.at ≡ before.at
  pub clears : after.bytes.now ≡ cleared_from (length before.bytes.now) before.at before.bytes.now

-- The bytes stand in a buffer from its front on, as many of them as it has room for, with zeros after them: n of them.
pub record Fills (before bytes after : List ℕ) (n : ℕ) : Type 0 where
  pub count : n ≡ length (take (length before) bytes)
  pub fills : after ≡ padded (length before) 0 bytes
