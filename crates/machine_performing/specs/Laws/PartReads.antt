-- Laws of reads of single bytes: a register, a held count and a variable stand where the code looks, and past the last
-- one there is 0.
-- Assumes nothing.
use Rattle.std.specs.Prelude.{◌≡◌, ℕ, ◌+◌, ◌*◌, ◌<◌, ◌≤◌, List, slice_index}
use Rattle.std.proofs.Math.Path.{sym}
use Rattle.std.proofs.Common.{ap, ◌∙◌, arith}
use Rattle.std.proofs.Math.ListN.{get_or-eq_default}
use Rattle.notation.specs.Lists.{bytes_at}
use Rattle.notation.specs.Laws.TabulateLaws.{bytes_at_length, bytes_at_at}
use Rattle.machine.specs.Held.{count_of}
use Rattle.machine.specs.Instructions.{register}
use Rattle.order_states.specs.Code.StateBytes.{frame_at, frame_in}

-- n bytes from a on, read past their end
past : (bytes : List ℕ) (a n k : ℕ) → n ≤ k → 0 ≡ slice_index (bytes_at bytes a n) k
past bytes a n k h =
    let few = bytes_at_length bytes a n in
    sym (get_or-eq_default (bytes_at bytes a n) 0 {n = k} (omega (arith, few)))

module _ (bytes : List ℕ) where
  -- registers
  pub register_read : (k r : ℕ) → r < 4 → slice_index bytes (64 + 16 * k + 4 + r) ≡ register (frame_in bytes k).local r
  unfolding register frame_in frame_at
  register_read k r lt = sym (bytes_at_at bytes (64 + 16 * k + 4) 4 r 0 lt)

  pub register_past : (k r : ℕ) → 4 ≤ r → 0 ≡ register (frame_in bytes k).local r
  unfolding register frame_in frame_at
  register_past k r h = past bytes (64 + 16 * k + 4) 4 r h

  -- held counts
  pub held_read : (k lock : ℕ) → lock < 8
      → slice_index bytes (64 + 16 * k + 8 + lock) ≡ count_of (frame_in bytes k).local.held lock
  unfolding frame_in frame_at
  held_read k lock lt = sym (bytes_at_at bytes (64 + 16 * k + 8) 8 lock 0 lt)

  pub held_past : (k lock : ℕ) → 8 ≤ lock → 0 ≡ count_of (frame_in bytes k).local.held lock
  unfolding frame_in frame_at
  held_past k lock h = past bytes (64 + 16 * k + 8) 8 lock h

  -- variables
  pub variable_read : (v : ℕ) → v < 8 → slice_index bytes v ≡ slice_index (bytes_at bytes 0 8) v
  variable_read v lt = ap (λ (i : ℕ). slice_index bytes i) (omega arith) ∙ sym (bytes_at_at bytes 0 8 v 0 lt)

  pub variable_past : (v : ℕ) → 8 ≤ v → 0 ≡ slice_index (bytes_at bytes 0 8) v
  variable_past v h = past bytes 0 8 v h

  -- the next position, in two bytes
  pub next_read : (k n : ℕ) → n ≡ slice_index bytes (64 + 16 * k + 2) + 256 * slice_index bytes (64 + 16 * k + 3)
      → n ≡ (frame_in bytes k).local.next
  unfolding frame_in frame_at
  next_read k n is = is
