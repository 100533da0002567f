-- Laws of an active job's bytes: two writes of eight bytes replace it, and it is the same where they are.
-- Assumes nothing.
use Rattle.std.specs.Prelude.{◌≡◌, refl, ℕ, zero, suc, ◌+◌, ◌*◌, ◌/◌, ◌%◌, ◌≤◌, ◌<◌, List, [], ◌∷◌, length, get_or}
use Rattle.std.proofs.Common.{ap, ◌∙◌, inl, inr, arith}
use Rattle.timing.specs.declared.Job.{Job}
use Rattle.machine.specs.declared.Local.{Local}
use Rattle.order.specs.declared.Frame.{Frame}
use Rattle.order_states.specs.Code.StateBytes.{frame_at, frame_in, Replaced, FrameReplaced}
use Rattle.notation.specs.Lists.{bytes_at}
use Rattle.order_states.proofs.Laws.StateWrites.{bytes_new, bytes_same}
use Rattle.notation.specs.Laws.TabulateLaws.{values_of, same_values}

-- a frame is known by its parts
frame_is : (bytes : List ℕ) (k : ℕ) (f : Frame) → get_or bytes (frame_at k) 0 ≡ f.job.0
    → get_or bytes (frame_at k + 2) 0 + 256 * get_or bytes (frame_at k + 3) 0 ≡ f.local.next
    → bytes_at bytes (frame_at k + 4) 4 ≡ f.local.registers → bytes_at bytes (frame_at k + 8) 8 ≡ f.local.held
    → frame_in bytes k ≡ f
unfolding frame_in
frame_is bytes k f job next registers held =
    λ t. record { job = record { 0 = job t }; local = record { next = next t; registers = registers t; held = held t } }

-- bytes that are the same hold the same frame
pub frame_same : (before after : List ℕ) (k : ℕ)
    → ((j : ℕ) → frame_at k ≤ j → j < frame_at k + 16 → get_or after j 0 ≡ get_or before j 0)
    → frame_in after k ≡ frame_in before k
unfolding frame_in
frame_same before after k same =
    frame_is after k (frame_in before k)
    (same (frame_at k) (omega arith) (omega arith))
    (ap (λ (n : ℕ). n + 256 * get_or after (frame_at k + 3) 0) (same (frame_at k + 2) (omega arith) (omega arith))
    ∙ ap (λ (n : ℕ). get_or before (frame_at k + 2) 0 + 256 * n) (same (frame_at k + 3) (omega arith) (omega arith)))
    (bytes_same before after (frame_at k + 4) 4 (λ j low high. same j (omega arith) (omega arith)))
    (bytes_same before after (frame_at k + 8) 8 (λ j low high. same j (omega arith) (omega arith)))

-- the eight bytes of a job and its own state that stand before its locks
unfoldable pub own_bytes : ℕ → ℕ → ℕ → List ℕ → List ℕ
own_bytes x low high registers =
    x ∷ 0 ∷ low ∷ high ∷ get_or registers 0 0 ∷ get_or registers 1 0 ∷ get_or registers 2 0 ∷ get_or registers 3 0 ∷ []

own_register : (x low high : ℕ) (registers : List ℕ) (k : ℕ) → k < 4
    → get_or (own_bytes x low high registers) (4 + k) 0 ≡ get_or registers k 0
unfolding own_bytes
own_register x low high registers zero lt = refl
own_register x low high registers (suc zero) lt = refl
own_register x low high registers (suc (suc zero)) lt = refl
own_register x low high registers (suc (suc (suc zero))) lt = refl
own_register x low high registers (suc (suc (suc (suc k)))) lt = absurd (omega arith)

-- these written, and then its locks, it is the active job at position k
pub frame_written : (before own after : List ℕ) (k : ℕ) (x : Job) (local : Local) (low high : ℕ)
    → low + 256 * high ≡ local.next → length local.registers ≡ 4 → length local.held ≡ 8
    → Replaced before own (64 + 16 * k) (own_bytes x.0 low high local.registers)
    → Replaced own after (64 + 16 * k + 8) local.held
    → FrameReplaced before after k (record { job = x; local = local })
unfolding frame_at own_bytes bytes_at
frame_written before own after k x local low high next four eight first second = record {
  same = second.same ∙ first.same;
  inside =
      frame_is after k (record { job = x; local = local })
      (ap (λ (j : ℕ). get_or after j 0) (omega arith) ∙ read 0 (omega arith))
      (ap (λ (n : ℕ). n + 256 * get_or after (frame_at k + 3) 0) (read 2 (omega arith))
      ∙ ap (λ (n : ℕ). low + 256 * n) (read 3 (omega arith))
      ∙ next)
      (same_values (λ j. get_or after (frame_at k + 4 + j) 0) (λ j. get_or local.registers j 0) 4
      (λ j lt.
      ap (λ (n : ℕ). get_or after n 0) (omega arith) ∙ read (4 + j) (omega arith) ∙ own_register x.0 low high local.registers j lt)
      ∙ values_of local.registers 4 four)
      (bytes_new own after (frame_at k + 8) local.held 8 eight second);
  outside = λ j away. elim away [
    | inl low ↦ second.outside j (inl (omega arith)) ∙ first.outside j (inl low)
    | inr high ↦ second.outside j (inr (omega arith)) ∙ first.outside j (inr (omega arith))
  ];
}
  where
    read : (j : ℕ) → j < 8 → get_or after (64 + 16 * k + j) 0 ≡ get_or (own_bytes x.0 low high local.registers) j 0
    read j lt = second.outside (64 + 16 * k + j) (inl (omega arith)) ∙ first.inside j lt

-- the low byte of its next position first
pub frame_put : (before own after : List ℕ) (k : ℕ) (x : Job) (local : Local) → length local.registers ≡ 4
    → length local.held ≡ 8
    → Replaced before own (64 + 16 * k) (own_bytes x.0 (local.next % 256) (local.next / 256) local.registers)
    → Replaced own after (64 + 16 * k + 8) local.held
    → FrameReplaced before after k (record { job = x; local = local })
frame_put before own after k x local four eight first second =
    frame_written before own after k x local (local.next % 256) (local.next / 256) (omega arith) four eight first second

-- an active job that was replaced leaves the store as it was
pub replaced_store : {before after : List ℕ} {k : ℕ} {f : Frame} → FrameReplaced before after k f
    → bytes_at after 0 8 ≡ bytes_at before 0 8
unfolding frame_at
replaced_store {before} {after} put = bytes_same before after 0 8 (λ j low high. put.outside j (inl (omega arith)))
