-- `taskfile_records::records::instruction_at` meets its contract: each of its four bytes is the definition's, read at once or one by one.
-- Assumes nothing.
use mathlib.Core.Path.{refl}
use Rattle.taskfile.specs.Records.{byte_at, instruction_at}
use Rattle.taskfile_records.proofs.records.instruction_at.Goals as goal

pub returns-then-at-file : goal.returns-then-at-file
unfolding instruction_at byte_at
returns-then-at-file c = refl

pub returns : goal.returns
unfolding instruction_at
returns c = λ i. record {
  operation = c.byte_at.ensures i;
  a = c.byte_at-2.ensures i;
  b = c.byte_at-3.ensures i;
  c = c.byte_at-4.ensures i;
}
