-- Parts of a table written into a buffer's room, one after the other from a place on.
-- Assumes nothing.
use Rattle.std.specs.Prelude.{ℕ, ◌≤◌, List, ◌++◌, length}
use Rattle.notation_buffers.specs.Code.Writing.{Appends}
use Rattle.notation_buffers.specs.Laws.WritingLaws.{appends_more}

-- five parts, one after the other
pub five_put : {room : ℕ} {before : List ℕ} {at : ℕ} {a one : List ℕ} {n : ℕ} {b two : List ℕ} {m : ℕ}
    {c three : List ℕ} {k : ℕ} {d four : List ℕ} {l : ℕ} {e after : List ℕ} {end : ℕ} → room ≤ length before
    → Appends room before at a one n → Appends room one n b two m → Appends room two m c three k
    → Appends room three k d four l → Appends room four l e after end
    → Appends room before at (a ++ b ++ c ++ d ++ e) after end
five_put enough first second third fourth fifth =
    let three = appends_more enough (appends_more enough first second) third in
    appends_more enough (appends_more enough three fourth) fifth
