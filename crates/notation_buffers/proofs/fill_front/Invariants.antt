-- What came is within the room, which keeps its length.
use Rattle.std.proofs.Common.{◌≡◌, ◌≤◌, length}
use Rattle.notation_buffers.proofs.fill_front.Given as goal

abbrev pub invariant-loop : goal.invariant-loop
invariant-loop g l = (l.got ≤ length l.room) × (length l.room ≡ length l.fn.room)
