-- A stretch of a file that starts at a record: what it says of the file's bytes, and the stretches that it is made of.
-- Assumes nothing.
use Rattle.std.specs.Prelude.{◌≡◌, ℕ, ◌+◌, ◌*◌, ◌≤◌, ◌<◌, List, ◌++◌, length, get_or}
use Rattle.std.proofs.Common.{sym, ap, ◌∙◌, arith, append_assoc, length-append}
use Rattle.taskfile.specs.Records.{File, records, byte_at}
use Rattle.writer.proofs.Laws.LayoutLaws.{part_byte}

-- the bytes of the file from record r on start with `bytes`
pub record StandsAt (f : File) (r : ℕ) (bytes : List ℕ) : Type 0 where
  pub front : List ℕ
  pub back : List ℕ
  pub whole : f ≡ front ++ (bytes ++ back)
  pub before : length front ≡ 16 * r

pub stands_byte : (f : File) (r : ℕ) (bytes : List ℕ) → StandsAt f r bytes → (k : ℕ) → k < length bytes
    → byte_at f r k ≡ get_or bytes k 0
stands_byte f r bytes s k h =
    ap (λ (g : File). byte_at g r k) s.whole ∙ part_byte s.front bytes s.back r k s.before h

-- a whole record that stands in the file is one of its records
pub stands_inside : (f : File) (r : ℕ) (bytes : List ℕ) → StandsAt f r bytes → 16 ≤ length bytes → r < records f
unfolding records
stands_inside f r bytes s h =
    omega (
      arith,
      ap (λ (g : File). length g) s.whole,
      length-append s.front (bytes ++ s.back),
      length-append bytes s.back,
      s.before,
    )

-- of two stretches joined, the first stands there, and the second after it
pub stands_first : (f : File) (r : ℕ) (bytes more : List ℕ) → StandsAt f r (bytes ++ more) → StandsAt f r bytes
stands_first f r bytes more s =
    record {
      front = s.front;
      back = more ++ s.back;
      whole = s.whole ∙ ap (λ (l : List ℕ). s.front ++ l) (append_assoc bytes more s.back);
      before = s.before;
    }

pub stands_second : (f : File) (r n after : ℕ) (bytes more : List ℕ) → StandsAt f r (bytes ++ more)
    → length bytes ≡ 16 * n → after ≡ r + n → StandsAt f after more
stands_second f r n after bytes more s long later =
    record {
      front = s.front ++ bytes;
      back = s.back;
      whole =
          s.whole
          ∙ ap (λ (l : List ℕ). s.front ++ l) (append_assoc bytes more s.back)
          ∙ sym (append_assoc s.front bytes (more ++ s.back));
      before = length-append s.front bytes ∙ omega (arith, s.before);
    }
