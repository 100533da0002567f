-- How much a job can hold by the time it has come to a position of its body: an instruction moves it on by one or more,
-- and raises the count of one lock by one at most, so no count is above the position. What adds to a count asks for
-- this, and every state that an order or a plan's run can reach has it (`WithinLaws`).
-- Assumes nothing.
use Rattle.std.specs.Prelude.{ℕ, ◌≤◌}
use Rattle.machine.specs.declared.Local.{Local}
use Rattle.machine.specs.Held.{Held, count_of}

-- no count is above n
pub record Within (n : ℕ) (held : Held) : Type 0 where
  pub most : (lock : ℕ) → count_of held lock ≤ n

-- no count is above the job's next position
abbrev pub LocksWithin : Local → Type 0
LocksWithin l = Within l.next l.held
