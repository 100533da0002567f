-- What converting bytes comes to, by what they are: an answer, and what the target then holds.
-- Assumes nothing.
use Rattle.std.specs.Prelude.{◌≡◌, ℕ, ◌≤◌, List, length}
use Rattle.writer.specs.declared.WriteAnswer.{WriteAnswer}
use Rattle.texts.specs.Turned.{shown, turned}

-- what is shown is what the bytes turn into, and its length is within the target
pub record ConvertedAs (bytes target : List ℕ) (x : WriteAnswer) (after : List ℕ) : Type 0 where
  pub showing : shown x after ≡ turned bytes target
  pub within : x.length ≤ length after
