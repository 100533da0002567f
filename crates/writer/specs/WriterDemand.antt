-- What the writer and the table's entry are worth. Document 02, E2: "A written table, read back, is the same table; an
-- accepted file, read and written, is that file with its records in walk order."
-- The statements are about what a caller sees: a table, a file, an answer and the lent bytes up to the returned length.
-- Assumes nothing.
use Rattle.std.specs.Prelude.{◌≡◌, ℕ, ◌≤◌, List, length, take}
use Rattle.notation.specs.Checked.{passed}
use Rattle.taskfile.specs.declared.Table.{Table}
use Rattle.taskfile.specs.Chains.{Chains, chains_of}
use Rattle.taskfile.specs.Records.{File}
use Rattle.timing.specs.Accepted.{Accepted, accept}
use Rattle.timing.specs.ReadEntries.{read_answer}
use Rattle.writer.specs.Values.{Bytes, Fits}
use Rattle.writer.specs.Layout.{layout}
use Rattle.writer.specs.Memory.{table_in, table_bytes}
use Rattle.writer.specs.SameTable.{SameTable}
use Rattle.writer.specs.WalkOrder.{in_walk_order}
use Rattle.writer.specs.WriteEntries.{file_room, write_answer, write_after, table_answer, table_after}

-- the file that was written: the buffer's bytes up to the returned length
unfoldable pub written_file : Table → List ℕ → File
written_file t buffer = take (write_answer t buffer).length (write_after t buffer)

-- the reader accepts the file, and its table is the same table
abbrev pub ReadsAs : File → Table → Type 0
ReadsAs f t = (a : Accepted) × (accept f ≡ passed a) × SameTable a.table t

-- of every table in memory, whatever it holds, and every buffer
pub record WriterDemand (t : Table) (buffer : List ℕ) : Type 0 where
  -- with room, the writer's number and place are those that the reader gives for the table's layout
  pub judges_alike : file_room ≤ length buffer
      → ((write_answer t buffer).number ≡ (read_answer (layout t)).number)
      × ((write_answer t buffer).place ≡ (read_answer (layout t)).place)
  -- what is written is that layout
  pub writes : (write_answer t buffer).number ≡ 0 → written_file t buffer ≡ layout t
  -- "A written table, read back, is the same table"
  pub reads_back : (write_answer t buffer).number ≡ 0 → ReadsAs (written_file t buffer) t

-- of every accepted file, with its chains and its table
pub record RewriteDemand (f : File) (c : Chains) (a : Accepted) : Type 0 where
  -- "an accepted file, read and written, is that file with its records in walk order"
  pub in_order : (buffer : List ℕ) → file_room ≤ length buffer
      → ((write_answer a.table buffer).number ≡ 0) × (written_file a.table buffer ≡ in_walk_order f c)
  -- the table's entry fills memory that holds that table
  pub in_memory : (memory : List ℕ) → table_bytes ≤ length memory
      → ((table_answer f memory).number ≡ 0) × (table_in (table_after f memory) ≡ a.table)

-- the demand: of every value of the table's type, and of every file of bytes that is accepted
pub record EntryWriterDemand : Type 0 where
  pub of_tables : (t : Table) → Fits t → (buffer : List ℕ) → WriterDemand t buffer
  pub of_files : (f : File) → Bytes f → (c : Chains) → chains_of f ≡ passed c → (a : Accepted) → accept f ≡ passed a
      → RewriteDemand f c a
