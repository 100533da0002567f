-- The reader up to number 9: a file's table, or the refusal that it earns. Document 01, "The task file" and "Numbers by
-- who causes them": "Order: 1; then the walk of records ..; Then 6, 7, 8, 9".
-- Assumes nothing.
use Rattle.std.specs.Prelude.{ℕ, ◌%◌, Bool, ◌&&◌, [], length, get_or, leb, eqb}
use Rattle.taskfile.specs.declared.Site.{Site}
use Rattle.taskfile.specs.declared.Site.TheVariants.{AtHeader, AtTask, AtInstruction, AtLock}
use Rattle.taskfile.specs.declared.Table.{Table}
use Rattle.taskfile.specs.Chains.{Chains, chains_of}
use Rattle.notation.specs.Checked.{Checked, passed, require, placed_by, ◌>>=◌, ◌>>◌}
use Rattle.taskfile.specs.Judgement.{judged}
use Rattle.taskfile.specs.Records.{File}
use Rattle.taskfile.specs.Tables.{table_at}

-- "1 SIZE: length 0, above 4,096 or no multiple of 16; place 0."
unfoldable pub sized : File → Bool
sized f = leb 1 (length f) && leb (length f) 4096 && eqb (length f % 16) 0

-- a file's table, with the chains that it was read from
pub record Loaded : Type 0 where
  pub table : Table
  pub chains : Chains

-- the record at a site of the table
unfoldable pub record_at : Chains → Site → ℕ
record_at c AtHeader = 0
record_at c (AtTask i) = (get_or c.tasks i.0 (record { task_record = 0; body = [] })).task_record
record_at c (AtInstruction i p) = get_or (get_or c.tasks i.0 (record { task_record = 0; body = [] })).body p 0
record_at c (AtLock l) = get_or c.locks l 0

unfoldable pub load : File → Checked ℕ Loaded
load f = do
  require (sized f) 1 0
  chains ← chains_of f
  placed_by (record_at chains) (judged (table_at f chains))
  passed (record { table = table_at f chains; chains = chains })
