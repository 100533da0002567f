-- The bytes of a list from a place on, as they are copied.
-- Assumes nothing.
use Rattle.std.specs.Prelude.{◌≡◌, ℕ, ◌+◌, ◌-◌, ◌≤◌, List, length, take, drop}
use Rattle.std.proofs.Common.{arith, get_or}
use Rattle.std.proofs.lemmas.Grind.{common_steps}
use Rattle.notation.specs.Laws.TabulateLaws.{values_are}
use Rattle.notation.specs.Lists.{bytes_at}

pub bytes_taken : (memory : List ℕ) (at n : ℕ) → at + n ≤ length memory
    → take (at + n - at) (drop at memory) ≡ bytes_at memory at n
unfolding bytes_at
bytes_taken memory at n inside =
    values_are (λ k. get_or memory (at + k) 0) n (take (at + n - at) (drop at memory)) 0 (grind (arith, common_steps))
    (λ k lt. grind (arith, common_steps))
