-- The reader and the writer agree: a table's layout is accepted as the table is, or refused by the same number at the
-- same index.
-- Assumes nothing.
use Rattle.std.specs.Prelude.{◌≡◌}
use Rattle.taskfile.specs.declared.Table.{Table}
use Rattle.timing.specs.Accepted.{accept}
use Rattle.writer.specs.Values.{Fits}
use Rattle.writer.specs.Fields.{accept_table}
use Rattle.writer.specs.Layout.{layout}
use Rattle.writer.proofs.Laws.LaidChainLaws.{sized_laid, chains_laid}
use Rattle.writer.proofs.Laws.WalkedTableLaws.{accept_walked}

pub accept_laid : (t : Table) → Fits t → accept (layout t) ≡ accept_table t
accept_laid t fit = accept_walked t fit (sized_laid t fit) (chains_laid t fit)
