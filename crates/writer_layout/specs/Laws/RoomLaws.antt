-- Bytes written at the front of a buffer fit its first part where that has room for them.
-- Assumes nothing.
use Rattle.std.specs.Prelude.{◌≡◌, ℕ, ◌+◌, ◌-◌, ◌≤◌, List, ◌++◌, length, take, drop}
use Rattle.std.proofs.Common.{sym, ap, ◌∙◌, arith, take_all}
use Rattle.notation_buffers.specs.Code.Writing.{Appends}

pub appends_within : {room : ℕ} {before bytes after : List ℕ} {n : ℕ} → length bytes ≤ room → room ≤ length before
    → Appends (length before) before 0 bytes after n → Appends room before 0 bytes after n
appends_within {room} {before} {bytes} {after} {n} fits enough does =
    let same : take (length before - 0) bytes ≡ take (room - 0) bytes =
    take_all (length before - 0) bytes (omega arith) ∙ sym (take_all (room - 0) bytes (omega arith)) in
    record {
      next = does.next ∙ ap (λ (l : List ℕ). 0 + length l) same;
      is = does.is ∙ ap (λ (l : List ℕ). take 0 before ++ (l ++ drop n before)) same;
    }
