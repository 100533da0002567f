-- Laws of reads of a state's bytes one by one: eight of them, and an active job.
-- Assumes nothing.
use Rattle.std.specs.Prelude.{◌≡◌, ℕ, suc, ◌+◌, ◌*◌, List, [], ◌∷◌, map, get_or}
use Rattle.std.proofs.Common.{sym, ap, add-zero, arith}
use Rattle.notation.specs.Lists.{from, up_to, bytes_at}
use Rattle.order_states.specs.Code.StateBytes.{frame_at, frame_in}

-- the first byte at its place, and the rest from it on
unfoldable read_from : List ℕ → ℕ → ℕ → List ℕ
read_from l at n = get_or l at 0 ∷ map (λ k. get_or l (at + k) 0) (from 1 n)

read_from_lem : (l : List ℕ) (at n : ℕ) → read_from l at n ≡ bytes_at l at (suc n)
unfolding read_from bytes_at up_to from
read_from_lem l at n = ap (λ (b : ℕ). b ∷ map (λ k. get_or l (at + k) 0) (from 1 n)) (ap (λ (a : ℕ). get_or l a 0) (sym (add-zero at)))

-- bytes read one by one
pub eight_read : (l : List ℕ) (at : ℕ)
    → get_or l at 0 ∷ get_or l (at + 1) 0 ∷ get_or l (at + 2) 0 ∷ get_or l (at + 3) 0 ∷ get_or l (at + 4) 0 ∷ get_or l (at + 5) 0
    ∷ get_or l (at + 6) 0 ∷ get_or l (at + 7) 0 ∷ [] ≡ bytes_at l at 8
unfolding read_from from
eight_read l at = read_from_lem l at 7

four_read : (l : List ℕ) (at : ℕ)
    → get_or l (at + 4) 0 ∷ get_or l (at + 5) 0 ∷ get_or l (at + 6) 0 ∷ get_or l (at + 7) 0 ∷ [] ≡ bytes_at l (at + 4) 4
unfolding bytes_at up_to from
four_read l at =
    let first : at + 4 ≡ at + 4 + 0 = omega arith in
    let second : at + 5 ≡ at + 4 + 1 = omega arith in
    let third : at + 6 ≡ at + 4 + 2 = omega arith in
    let fourth : at + 7 ≡ at + 4 + 3 = omega arith in
    λ t. get_or l (first t) 0 ∷ get_or l (second t) 0 ∷ get_or l (third t) 0 ∷ get_or l (fourth t) 0 ∷ []

-- an active job read so
pub frame_read : (l : List ℕ) (k next : ℕ) (held : List ℕ) → next ≡ get_or l (64 + 16 * k + 2) 0 + 256 * get_or l (64 + 16 * k + 3) 0
    → held ≡ bytes_at l (64 + 16 * k + 8) 8
    → record {
      job = record { 0 = get_or l (64 + 16 * k) 0 };
      local =
          record {
            next = next;
            registers = get_or l (64 + 16 * k + 4) 0 ∷ get_or l (64 + 16 * k + 5) 0 ∷ get_or l (64 + 16 * k + 6) 0 ∷ get_or l (64 + 16 * k + 7) 0 ∷ [];
            held = held;
          };
    }
    ≡ frame_in l k
unfolding frame_in frame_at
frame_read l k next held number locks =
    λ t.
    record {
      job = record { 0 = get_or l (64 + 16 * k) 0 };
      local = record { next = number t; registers = four_read l (64 + 16 * k) t; held = locks t };
    }
