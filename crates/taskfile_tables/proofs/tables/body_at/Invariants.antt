-- `taskfile_tables::tables::body_at` meets its contract. The loop's invariant is `FilledTo`: the array holds the instruction of each
-- record passed.
-- Assumes nothing.
use Rattle.taskfile.proofs.Laws.LinkedLaws.{FilledTo}
use Rattle.taskfile.specs.Records.{instruction_at}
use Rattle.taskfile.specs.Tables.{end_instruction}
use Rattle.taskfile_tables.proofs.tables.body_at.Given as goal

abbrev pub invariant-loop-n : goal.invariant-loop-n
invariant-loop-n l = FilledTo l.file l.first 16 end_instruction (instruction_at l.file) l.items l.n
