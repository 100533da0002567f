-- `wide_at` meets its contract: each byte is the definition's, read at once or one by one.
-- Assumes nothing.
use native.Mathlib.Omega.{arith}
use Rattle.taskfile.proofs.Laws.RecordLaws.{wide_at_read}
use Rattle.taskfile.specs.Records.{wide_at}
use Rattle.taskfile_records.proofs.records.wide_at.Goals as goal

pub returns-then-at-file : goal.returns-then-at-file
returns-then-at-file c = omega (arith, wide_at_read c.args.file.now c.args.r c.args.k)

pub returns : goal.returns
unfolding wide_at
returns c = omega arith
