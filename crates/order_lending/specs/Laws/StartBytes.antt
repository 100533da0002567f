-- The bytes of the state that an order starts from: zeros, then the store and the first jobs written.
-- Assumes nothing.
use Rattle.std.specs.Prelude.{◌≡◌, ℕ, ◌+◌, ◌*◌, ◌≤◌, ◌<◌, List, map, length, replicate, eqb}
use Rattle.std.proofs.Math.Path.{refl, sym, ap}
use Rattle.std.proofs.Common.{subst, ◌∙◌, inl, inr, arith}
use Rattle.std.proofs.Math.Bool.{false, not}
use Rattle.std.proofs.Math.ListN.{get_or}
use Rattle.std.proofs.lemmas.List.{length-replicate, get_or-replicate}
use Rattle.notation.specs.Lists.{up_to, bytes_at}
use Rattle.machine.specs.Ends.{no_flags}
use Rattle.machine.specs.Held.{no_locks}
use Rattle.machine.specs.Instructions.{fresh}
use Rattle.order_states.specs.Code.SnapshotSteps.{no_frame, first_from, first_snapshot}
use Rattle.order_states.specs.Code.SnapshotWithin.{AllWithin}
use Rattle.order_states.proofs.Laws.SnapshotWithinLaws.{first_snapshot_within}
use Rattle.order_states.specs.Code.StateBytes.{frame_at, frame_in, flag_in, snapshot_in, IsState, Replaced}
use Rattle.notation.specs.Laws.TabulateLaws.{values_length, values_are}

-- n equal values
same_values : {A : Type 0} (f : ℕ → A) (n : ℕ) (y : A) → ((k : ℕ) → k < n → f k ≡ y) → map f (up_to n) ≡ replicate n y
same_values f n y h =
    sym (values_are f n (replicate n y) y (length-replicate n y) (λ k lt. get_or-replicate n k y y lt ∙ sym (h k lt)))

-- n zeros from a on
zero_bytes : (bytes : List ℕ) (a n : ℕ) → ((k : ℕ) → k < n → get_or bytes (a + k) 0 ≡ 0)
    → bytes_at bytes a n ≡ replicate n 0
unfolding bytes_at
zero_bytes bytes a n h = same_values (λ k. get_or bytes (a + k) 0) n 0 h

-- the first job of each task, one by one
pub firsts_listed : (program : List ℕ) {unended : List ℕ} → length unended ≡ 8
    → ((k : ℕ) → k < 8 → get_or unended k 0 ≡ first_from program k 0 32)
    → unended ≡ map (λ k. first_from program k 0 32) (up_to 8)
firsts_listed program {unended} eight known = values_are (λ k. first_from program k 0 32) 8 unended 0 eight known

module _ (program store : List ℕ) {unended filled bytes : List ℕ} (size : length store ≡ 8)
    (first : Replaced (replicate 192 0) filled 0 store) (second : Replaced filled bytes 8 unended)
    (listed : unended ≡ map (λ k. first_from program k 0 32) (up_to 8)) where
  long : length unended ≡ 8
  long = ap length listed ∙ values_length (λ k. first_from program k 0 32) 8

  -- the other bytes are zero
  rest : (k : ℕ) → 16 ≤ k → k < 192 → get_or bytes k 0 ≡ 0
  rest k le lt =
      second.outside k (inr (omega (arith, long))) ∙ first.outside k (inr (omega (arith, size))) ∙ get_or-replicate 192 k 0 0 lt

  -- the store
  stored : bytes_at bytes 0 8 ≡ store
  unfolding bytes_at
  stored =
      sym (values_are (λ k. get_or bytes (0 + k) 0) 8 store 0 size
      (λ k lt. sym (second.outside (0 + k) (inl (omega arith)) ∙ first.inside k (omega (arith, size)))))

  -- the first jobs
  begun : bytes_at bytes 8 8 ≡ map (λ k. first_from program k 0 32) (up_to 8)
  unfolding bytes_at
  begun = sym (values_are (λ k. get_or bytes (8 + k) 0) 8 unended 0 long (λ k lt. sym (second.inside k (omega (arith, long))))) ∙ listed

  -- no job has failed
  unflagged : map (flag_in bytes) (up_to 32) ≡ no_flags
  unfolding flag_in no_flags
  unflagged = same_values (flag_in bytes) 32 false (λ k lt. ap (λ (n : ℕ). not (eqb n 0)) (rest (16 + k) (omega arith) (omega arith)))

  -- none is active
  flat : get_or bytes 48 0 ≡ 0
  flat = rest 48 (omega arith) (omega arith)

  unused : (k : ℕ) → k < 8 → frame_in bytes k ≡ no_frame
  unfolding frame_in frame_at no_frame fresh no_locks
  unused k lt =
      rw (
        rest (64 + 16 * k) (omega arith) (omega arith),
        rest (64 + 16 * k + 2) (omega arith) (omega arith),
        rest (64 + 16 * k + 3) (omega arith) (omega arith),
        zero_bytes bytes (64 + 16 * k + 4) 4 (λ j below. rest (64 + 16 * k + 4 + j) (omega arith) (omega arith)),
        zero_bytes bytes (64 + 16 * k + 8) 8 (λ j below. rest (64 + 16 * k + 8 + j) (omega arith) (omega arith)),
      ) refl

  pub start_shown : snapshot_in bytes ≡ first_snapshot program store
  unfolding snapshot_in first_snapshot
  start_shown = rw (stored, begun, unflagged, flat, same_values (frame_in bytes) 8 no_frame unused) refl

  pub start_whole : IsState bytes
  start_whole =
      record {
        whole = second.same ∙ first.same ∙ length-replicate {A = ℕ} 192 0;
        few = omega (arith, flat);
        within = subst AllWithin (sym start_shown) (first_snapshot_within program store);
      }
