-- What is noted of a step in a state's bytes, beside what its instruction did.
-- Assumes nothing.
use Rattle.std.specs.Prelude.{◌≡◌, ◌⊎◌, ℕ, ◌+◌, ◌≤◌, ◌<◌, Bool, List, map, length, get_or, set}
use Rattle.std.specs.Prelude.{if◌then◌else◌}
use Rattle.notation.specs.Lists.{up_to, bytes_at}
use Rattle.machine.specs.Ends.{flagged}
use Rattle.order_states.specs.Code.StateBytes.{flag_in}

-- job x of task i, with so many active jobs under it, has failed an assertion or not, and has ended or not
pub record Noted (before after : List ℕ) (x under i : ℕ) (failed ended : Bool) : Type 0 where
  pub same : length after ≡ length before
  pub unended : bytes_at after 8 8 ≡ (if ended then set (bytes_at before 8 8) i (x + 1) else bytes_at before 8 8)
  pub flags : map (flag_in after) (up_to 32) ≡ flagged failed x (map (flag_in before) (up_to 32))
  pub depth : get_or after 48 0 ≡ (if ended then under else under + 1)
  pub rest : (k : ℕ) → (k < 8) ⊎ (64 ≤ k) → get_or after k 0 ≡ get_or before k 0
