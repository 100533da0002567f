-- Whether a job may make a further step, as its function tells it.
-- Assumes nothing.
use Rattle.std.specs.Prelude.{ℕ, Bool, ◌&&◌, ltb}

-- the base is a task's, and the position is one of a body's
unfoldable pub may_step : ℕ → ℕ → Bool
may_step base next = ltb base 8 && ltb next 16
