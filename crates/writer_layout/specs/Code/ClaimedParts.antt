-- The link to a part of a chain by its number, as the functions make it.
-- Assumes nothing.
use Rattle.std.specs.Prelude.{ℕ, ltb}
use Rattle.std.specs.Prelude.{if◌then◌else◌}

-- the index r where part p of `count` comes to stand, or zero where there is no such part
unfoldable pub link_at : ℕ → ℕ → ℕ → ℕ
link_at r p count = if ltb p count then r else 0
