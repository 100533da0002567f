-- `taskfile_tables::tables::entries_at` meets its contract. The loop's invariant is `FilledTo`: the array holds the entry of each record
-- passed.
-- Assumes nothing.
use Rattle.taskfile.proofs.Laws.LinkedLaws.{FilledTo}
use Rattle.taskfile.specs.Code.Reading.{linked_task}
use Rattle.taskfile.specs.Tables.{no_task, entry_at}
use Rattle.taskfile_tables.proofs.tables.entries_at.Given as goal

abbrev pub invariant-loop-n : goal.invariant-loop-n
invariant-loop-n l = FilledTo l.file l.first 8 no_task (λ r. entry_at l.file (linked_task l.file r)) l.items l.n
