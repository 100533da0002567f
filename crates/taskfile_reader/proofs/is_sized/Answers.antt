-- `taskfile_reader::is_sized` meets its contract: each test decides one part of what the length has to be.
-- Assumes nothing.
use native.Mathlib.Omega.{arith}
use Rattle.std.proofs.lemmas.Bool.Decides.{nat_tests}
use Rattle.taskfile.specs.File.{sized}
use Rattle.taskfile_reader.proofs.is_sized.Goals as goal

pub returns-then-n-le-BYTES : goal.returns-then-n-le-BYTES
unfolding sized
returns-then-n-le-BYTES c = grind (arith, nat_tests)

pub returns-else-n-le-BYTES : goal.returns-else-n-le-BYTES
unfolding sized
returns-else-n-le-BYTES c = grind (arith, nat_tests)
