-- A state of an order in one array of 192 bytes, which is lent to the functions that read it and copied once a move.
-- Bytes 0 to 7 are the store; from 8 on stands for each task the number of its first job not yet ended, from 16 on a
-- flag for each of 32 jobs, 1 if it has failed; byte 48 is the number of active jobs; and from 64 on stand 16 bytes
-- for each of them: its number, a byte that is not used, its next position in two bytes, the low one first, its four
-- registers, and a byte for each lock. Bytes 49 to 63 are not used. `snapshot_in` is the snapshot that such bytes hold.
-- Assumes nothing.
use Rattle.std.specs.Prelude.{◌≡◌, ℕ, ◌+◌, ◌*◌, ◌≤◌, ◌<◌, Bool, not, List, map, ◌⊎◌, length, get_or, eqb}
use Rattle.notation.specs.Lists.{up_to, bytes_at}
use Rattle.order.specs.declared.Frame.{Frame}
use Rattle.order_states.specs.Code.Snapshots.{Snapshot}
use Rattle.order_states.specs.Code.SnapshotWithin.{AllWithin}
use Rattle.order_states.specs.Code.Sizes.{state_bytes}

-- where the bytes of the active job at position k start
unfoldable pub frame_at : ℕ → ℕ
frame_at k = 64 + 16 * k

unfoldable pub frame_in : List ℕ → ℕ → Frame
frame_in bytes k =
    record {
      job = record { 0 = get_or bytes (frame_at k) 0 };
      local =
          record {
            next = get_or bytes (frame_at k + 2) 0 + 256 * get_or bytes (frame_at k + 3) 0;
            registers = bytes_at bytes (frame_at k + 4) 4;
            held = bytes_at bytes (frame_at k + 8) 8;
          };
    }

-- the flag of job x
unfoldable pub flag_in : List ℕ → ℕ → Bool
flag_in bytes x = not (eqb (get_or bytes (16 + x) 0) 0)

unfoldable pub snapshot_in : List ℕ → Snapshot
snapshot_in bytes =
    record {
      store = bytes_at bytes 0 8;
      unended = bytes_at bytes 8 8;
      failed = map (flag_in bytes) (up_to 32);
      depth = get_or bytes 48 0;
      stack = map (frame_in bytes) (up_to 8);
    }

-- the array is whole, at most eight jobs are active, and none holds more than it can by its position
pub record IsState (bytes : List ℕ) : Type 0 where
  pub whole : length bytes ≡ state_bytes
  pub few : get_or bytes 48 0 ≤ 8
  pub within : AllWithin (snapshot_in bytes)

-- the bytes from a on were replaced by new ones, and no others
pub record Replaced (before after : List ℕ) (a : ℕ) (new : List ℕ) : Type 0 where
  pub same : length after ≡ length before
  pub inside : (k : ℕ) → k < length new → get_or after (a + k) 0 ≡ get_or new k 0
  pub outside : (k : ℕ) → (k < a) ⊎ (a + length new ≤ k) → get_or after k 0 ≡ get_or before k 0

-- the active job at position k was replaced, and nothing else
pub record FrameReplaced (before after : List ℕ) (k : ℕ) (f : Frame) : Type 0 where
  pub same : length after ≡ length before
  pub inside : frame_in after k ≡ f
  pub outside : (j : ℕ) → (j < frame_at k) ⊎ (frame_at k + 16 ≤ j) → get_or after j 0 ≡ get_or before j 0
