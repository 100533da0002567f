-- Four bytes written one after the other are a wide field.
-- Assumes nothing.
use Rattle.std.specs.Prelude.{◌≡◌, ℕ, ◌/◌, ◌%◌, ◌≤◌, List, [], ◌∷◌, length}
use Rattle.std.proofs.Common.{subst}
use Rattle.writer.specs.Layout.{wide_bytes}
use Rattle.notation_buffers.specs.Code.Writing.{Appends}
use Rattle.notation_buffers.specs.Laws.WritingLaws.{appends_more}

pub wide_written : (x : ℕ) {room : ℕ} {before : List ℕ} {at a b c d : ℕ} {one : List ℕ} {n : ℕ} {two : List ℕ} {m : ℕ}
    {three : List ℕ} {k : ℕ} {after : List ℕ} {end : ℕ} → room ≤ length before
    → a ≡ x % 256 → b ≡ x / 256 % 256 → c ≡ x / 65536 % 256 → d ≡ x / 16777216 % 256
    → Appends room before at (a ∷ []) one n → Appends room one n (b ∷ []) two m → Appends room two m (c ∷ []) three k
    → Appends room three k (d ∷ []) after end → Appends room before at (wide_bytes x) after end
unfolding wide_bytes
wide_written x {room} {before} {at} {after = after} {end = end} enough is_a is_b isC isD first second third fourth =
    subst (λ (l : List ℕ). Appends room before at l after end) (λ j. is_a j ∷ is_b j ∷ isC j ∷ isD j ∷ [])
    (appends_more enough (appends_more enough (appends_more enough first second) third) fourth)
