-- `taskfile_tables::tables::locks_at` meets its contract. The loop's invariant is `FilledTo` twice: one array holds the ceiling, the other
-- the holding time of each record passed.
-- Assumes nothing.
use Rattle.taskfile.proofs.Laws.LinkedLaws.{FilledTo}
use Rattle.taskfile.specs.Records.{byte_at, wide_at}
use Rattle.taskfile_tables.proofs.tables.locks_at.Given as goal

abbrev pub invariant-loop-n : goal.invariant-loop-n
invariant-loop-n l =
    FilledTo l.file l.first 8 0 (λ r. byte_at l.file r 2) l.ceilings l.n × FilledTo l.file l.first 8 0 (λ r. wide_at l.file r 4) l.holdings l.n
