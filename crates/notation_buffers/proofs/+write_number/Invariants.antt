-- The measure of `write_number` is the number, which falls by a digit.
-- Assumes nothing.
use Rattle.notation_buffers.proofs.+write_number.Given as goal

abbrev pub decreases-write_number : goal.decreases-write_number
decreases-write_number l = l.x
