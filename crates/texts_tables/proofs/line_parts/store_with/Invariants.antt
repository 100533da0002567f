-- `texts_tables::line_parts::store_with` meets its contract. The loop's invariant: the first v values are stored.
-- Assumes nothing.
use Rattle.std.proofs.Common.{◌≡◌, ℕ, ◌<◌, length, get_or}
use Rattle.texts_tables.proofs.line_parts.store_with.Given as goal

abbrev pub invariant-loop-v : goal.invariant-loop-v
invariant-loop-v l =
    record { full : length l.store ≡ 8; stored : (k : ℕ) → k < l.v → get_or l.store k 0 ≡ get_or l.numbers k 0 }
