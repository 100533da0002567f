-- The fields of an instruction, and the largest value of each as the code's table has it.
-- Assumes nothing.
use Rattle.std.specs.Prelude.{ℕ}
use Rattle.taskfile.specs.declared.Field.{Field}
use Rattle.taskfile.specs.declared.Field.TheVariants.{A, B, C}
use Rattle.taskfile.specs.Records.{Use, unused, most, lock_number, Uses}

-- how an operation uses a field
unfoldable pub field_of : Field → Uses → Use
field_of A u = u.a
field_of B u = u.b
field_of C u = u.c

-- the largest value of a used field; 0 for an unused one; any byte for a lock number
unfoldable pub limit_of : Use → ℕ
limit_of unused = 0
limit_of (most n) = n
limit_of lock_number = 255
