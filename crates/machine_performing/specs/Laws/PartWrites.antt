-- Laws of writes of single bytes in a state: what a register, a held count, a variable and the next position are after
-- them, and that nothing else has changed.
-- Assumes nothing.
use Rattle.std.specs.Prelude.{◌≡◌, ℕ, ◌+◌, ◌*◌, ◌/◌, ◌%◌, ◌<◌, ◌≤◌, ◌⊎◌, List, length, replicate, ◌≢◌, slice_index, slice_index_or, slice_set}
use Rattle.std.proofs.Math.Path.{refl, sym}
use Rattle.std.proofs.Common.{ap, ◌∙◌, get_or-set_same, get_or-set_other}
use Rattle.std.proofs.Math.Logic.{inl, inr}
use native.Mathlib.Omega.{arith}
use Rattle.std.proofs.Math.ListN.{length-set}
use Rattle.std.proofs.Math.Seq.{set_out}
use Rattle.notation.specs.Lists.{bytes_at}
use Rattle.notation.specs.Laws.TabulateLaws.{bytes_at_length}
use Rattle.machine.specs.declared.Local.{Local}
use Rattle.machine.specs.Held.{no_locks}
use Rattle.machine.specs.Instructions.{goes_on, with_register, with_held}
use Rattle.order_states.specs.Code.StateBytes.{frame_at, frame_in, Replaced}
use Rattle.order_states.proofs.Laws.StateWrites.{bytes_new, bytes_same, bytes_set}
use Rattle.machine_performing.specs.Code.Performed.{Performed, LocalMade, StoreMade, with_next}

-- ---- bytes of the job at position k

module _ (before : List ℕ) (k : ℕ) where
  -- the job's own state by its parts, where no byte outside of them has changed
  made_of : (after : List ℕ) (l : Local) → length after ≡ length before
      → ((j : ℕ) → (j < 64 + 16 * k + 2) ⊎ (64 + 16 * k + 16 ≤ j) → slice_index after j ≡ slice_index before j)
      → slice_index after (64 + 16 * k + 2) + 256 * slice_index after (64 + 16 * k + 3) ≡ l.next
      → bytes_at after (64 + 16 * k + 4) 4 ≡ l.registers → bytes_at after (64 + 16 * k + 8) 8 ≡ l.held
      → Performed before after k (goes_on l (bytes_at before 0 8))
  unfolding frame_in frame_at
  made_of after l same outside next registers held = record {
    same = same;
    store = bytes_same before after 0 8 (λ j low high. outside j (inl (omega arith)));
    frame =
        λ t. record {
          job = record { 0 = outside (64 + 16 * k) (inl (omega arith)) t };
          local = record { next = next t; registers = registers t; held = held t };
        };
    outside = λ j high away. elim away [
      | inl low ↦ outside j (inl (omega arith))
      | inr high ↦ outside j (inr (omega arith))
    ];
  }

  -- nothing written, where the change changes nothing
  pub unchanged : (l : Local) → (frame_in before k).local ≡ l → Performed before before k (goes_on l (bytes_at before 0 8))
  unfolding frame_in frame_at
  unchanged l is =
      made_of before l refl (λ j away. refl) (ap (λ (m : Local). m.next) is) (ap (λ (m : Local). m.registers) is)
      (ap (λ (m : Local). m.held) is)

  -- its next position is the same where its bytes are
  next_same : (after : List ℕ) → slice_index after (64 + 16 * k + 2) ≡ slice_index before (64 + 16 * k + 2)
      → slice_index after (64 + 16 * k + 3) ≡ slice_index before (64 + 16 * k + 3)
      → slice_index after (64 + 16 * k + 2) + 256 * slice_index after (64 + 16 * k + 3) ≡ (frame_in before k).local.next
  unfolding frame_in frame_at
  next_same after low high = λ t. low t + 256 * high t

  -- every byte but the one written
  kept : (i x j : ℕ) → (j ≢ i) → slice_index (slice_set before i x) j ≡ slice_index before j
  kept i x j apart = get_or-set_other before i j x 0 apart

  -- a register written, and none past the last
  pub register_put : (r x : ℕ) → length before ≡ 192 → k < 8 → r < 4
      → LocalMade before (slice_set before (64 + 16 * k + 4 + r) x) k (with_register r x)
  unfolding frame_in frame_at with_register
  register_put r x whole few lt =
      let i = 64 + 16 * k + 4 + r in
      made_of (slice_set before i x) (with_register r x (frame_in before k).local) (length-set before i x)
      (λ j away. kept i x j (λ e. elim away [ inl low ↦ omega arith | inr high ↦ omega arith ]))
      (next_same (slice_set before i x) (kept i x _ (λ e. omega arith)) (kept i x _ (λ e. omega arith)))
      (bytes_set before (slice_set before i x) (64 + 16 * k + 4) 4 r x (get_or-set_same before i x 0 (omega arith))
      (λ j low high apart. kept i x j apart))
      (bytes_same before (slice_set before i x) (64 + 16 * k + 8) 8 (λ j low high. kept i x j (λ e. omega arith)))

  pub register_none : (r x : ℕ) → 4 ≤ r → LocalMade before before k (with_register r x)
  unfolding frame_in frame_at with_register
  register_none r x h =
      let l = (frame_in before k).local in
      let few = bytes_at_length before (64 + 16 * k + 4) 4 in
      let same = set_out l.registers r x (omega (arith, few)) in
      unchanged (with_register r x l) (λ t. record { next = l.next; registers = sym same t; held = l.held })

  -- a held count written, and none past the last
  pub held_put : (lock n : ℕ) → length before ≡ 192 → k < 8 → lock < 8
      → LocalMade before (slice_set before (64 + 16 * k + 8 + lock) n) k (λ l. with_held (slice_set l.held lock n) l)
  unfolding frame_in frame_at with_held
  held_put lock n whole few lt =
      let i = 64 + 16 * k + 8 + lock in
      made_of (slice_set before i n) (with_held (slice_set (frame_in before k).local.held lock n) (frame_in before k).local)
      (length-set before i n)
      (λ j away. kept i n j (λ e. elim away [ inl low ↦ omega arith | inr high ↦ omega arith ]))
      (next_same (slice_set before i n) (kept i n _ (λ e. omega arith)) (kept i n _ (λ e. omega arith)))
      (bytes_same before (slice_set before i n) (64 + 16 * k + 4) 4 (λ j low high. kept i n j (λ e. omega arith)))
      (bytes_set before (slice_set before i n) (64 + 16 * k + 8) 8 lock n (get_or-set_same before i n 0 (omega arith))
      (λ j low high apart. kept i n j apart))

  pub held_none : (lock n : ℕ) → 8 ≤ lock → LocalMade before before k (λ l. with_held (slice_set l.held lock n) l)
  unfolding frame_in frame_at with_held
  held_none lock n h =
      let l = (frame_in before k).local in
      let few = bytes_at_length before (64 + 16 * k + 8) 8 in
      let same = set_out l.held lock n (omega (arith, few)) in
      unchanged (with_held (slice_set l.held lock n) l)
      (λ t. record { next = l.next; registers = l.registers; held = sym same t })

  -- all its locks written at once
  pub held_cleared : (after : List ℕ) → Replaced before after (64 + 16 * k + 8) (replicate 8 0)
      → LocalMade before after k (with_held no_locks)
  unfolding frame_in frame_at with_held no_locks
  held_cleared after done =
      made_of after (with_held no_locks (frame_in before k).local) done.same
      (λ j away. done.outside j (elim away [ inl low ↦ inl (omega arith) | inr high ↦ inr (omega arith) ]))
      (next_same after (done.outside _ (inl (omega arith))) (done.outside _ (inl (omega arith))))
      (bytes_same before after (64 + 16 * k + 4) 4 (λ j low high. done.outside j (inl (omega arith))))
      (bytes_new before after (64 + 16 * k + 8) (replicate 8 0) 8 refl done)

-- ---- both bytes of its next position

module _ (before : List ℕ) (k next : ℕ) (whole : length before ≡ 192) (few : k < 8) where
  -- the low byte written, and then the high one
  abbrev begun : List ℕ
  begun = slice_set before (64 + 16 * k + 2) (next % 256)

  abbrev moved : List ℕ
  moved = slice_set begun (64 + 16 * k + 3) (next / 256)

  -- what the bytes are then
  moved_kept : (j : ℕ) → (j ≢ 64 + 16 * k + 2) → (j ≢ 64 + 16 * k + 3) → slice_index moved j ≡ slice_index before j
  moved_kept j low high =
      get_or-set_other begun (64 + 16 * k + 3) j (next / 256) 0 high
      ∙ get_or-set_other before (64 + 16 * k + 2) j (next % 256) 0 low

  moved_low : slice_index_or moved (64 + 16 * k + 2) 0 ≡ next % 256
  moved_low =
      get_or-set_other begun (64 + 16 * k + 3) (64 + 16 * k + 2) (next / 256) 0 (λ e. omega arith)
      ∙ get_or-set_same before (64 + 16 * k + 2) (next % 256) 0 (omega arith)

  moved_high : slice_index_or moved (64 + 16 * k + 3) 0 ≡ next / 256
  moved_high =
      get_or-set_same begun (64 + 16 * k + 3) (next / 256) 0
      (omega (arith, length-set before (64 + 16 * k + 2) (next % 256)))

  moved_next : slice_index_or moved (64 + 16 * k + 2) 0 + 256 * slice_index moved (64 + 16 * k + 3) ≡ next
  moved_next = omega (arith, moved_low, moved_high)

  -- so the position is the one put
  pub next_put : LocalMade before moved k (with_next next)
  unfolding frame_in frame_at with_next
  next_put =
      made_of before k moved (with_next next (frame_in before k).local)
      (length-set begun (64 + 16 * k + 3) (next / 256) ∙ length-set before (64 + 16 * k + 2) (next % 256))
      (λ j away. elim away [
        | inl low ↦ moved_kept j (λ e. omega arith) (λ e. omega arith)
        | inr high ↦ moved_kept j (λ e. omega arith) (λ e. omega arith)
      ])
      moved_next
      (bytes_same before moved (64 + 16 * k + 4) 4 (λ j low high. moved_kept j (λ e. omega arith) (λ e. omega arith)))
      (bytes_same before moved (64 + 16 * k + 8) 8 (λ j low high. moved_kept j (λ e. omega arith) (λ e. omega arith)))

-- ---- a variable

module _ (before : List ℕ) (v x : ℕ) where
  -- written, and none past the last
  pub variable_put : length before ≡ 192 → v < 8 → StoreMade before (slice_set before v x) (slice_set (bytes_at before 0 8) v x)
  variable_put whole lt = record {
    same = length-set before v x;
    inside =
        bytes_set before (slice_set before v x) 0 8 v x
        (ap (λ (i : ℕ). slice_index (slice_set before v x) i) (omega arith) ∙ get_or-set_same before v x 0 (omega arith))
        (λ j low high apart. get_or-set_other before v j x 0 (λ e. apart (omega arith)));
    outside = λ j high. get_or-set_other before v j x 0 (λ e. omega arith);
  }

  pub variable_none : 8 ≤ v → StoreMade before before (slice_set (bytes_at before 0 8) v x)
  variable_none h = record {
    same = refl;
    inside = sym (set_out (bytes_at before 0 8) v x (omega (arith, bytes_at_length before 0 8)));
    outside = λ j high. refl;
  }
