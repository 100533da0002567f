-- What both conversions are worth. Document 02, E5: "Each table has one text, and the grammar is written down apart
-- from the converter: it accepts that grammar's texts of accepted tables and no others. Text from a file, converted
-- back, is the file in walk order."
-- The statements are about what a caller sees: a text, a file, an answer and the lent bytes up to the returned length.
-- Assumes nothing.
use Rattle.std.specs.Prelude.{◌≡◌, ◌↔◌, ℕ, ◌≤◌, List, length, take}
use Rattle.notation.specs.Checked.{passed}
use Rattle.notation.specs.Texts.{Text}
use Rattle.taskfile.specs.declared.Table.{Table}
use Rattle.taskfile.specs.Chains.{Chains, chains_of}
use Rattle.taskfile.specs.Records.{File}
use Rattle.timing.specs.Accepted.{Accepted, accept}
use Rattle.writer.specs.Values.{Bytes, Fits}
use Rattle.writer.specs.Fields.{accept_table}
use Rattle.writer.specs.SameTable.{SameTable}
use Rattle.writer.specs.WalkOrder.{in_walk_order}
use Rattle.writer.specs.WriteEntries.{file_room}
use Rattle.texts.specs.Grammar.{Line, Spells}
use Rattle.texts.specs.TextEntries.{text_room, to_file_answer, to_file_after, to_text_answer, to_text_after}
use Rattle.texts.specs.TextTables.{table_of, table_lines, text_of}

-- what was written: the target's bytes up to the returned length
unfoldable pub file_written : Text → List ℕ → File
file_written text target = take (to_file_answer text target).length (to_file_after text target)

unfoldable pub text_written : File → List ℕ → Text
text_written f target = take (to_text_answer f target).length (to_text_after f target)

-- a text of the grammar whose table is accepted
abbrev pub AcceptedText : Text → Type 0
AcceptedText text =
    (lines : List Line) × Spells lines text × ((a : Accepted) × (accept_table (table_of lines) ≡ passed a))

-- the bytes of the longest text that is accepted
abbrev pub longest_text : ℕ
longest_text = 2_091

-- of every accepted table
pub record OfTable (t : Table) : Type 0 where
  -- "Each table has one text": a text of the grammar
  pub in_grammar : Spells (table_lines t) (text_of t)
  -- the lines of that text spell this table
  pub spelled : SameTable (table_of (table_lines t)) t
  -- and that table is accepted too
  pub accepted : AcceptedText (text_of t)

-- of every text
pub record OfText (text : Text) : Type 0 where
  -- one list of lines spells it, if any, and so it has one table
  pub unique : (lines others : List Line) → Spells lines text → Spells others text → lines ≡ others
  -- "it accepts that grammar's texts of accepted tables and no others"
  pub accepted : (target : List ℕ) → file_room ≤ length target
      → ((to_file_answer text target).number ≡ 0) ↔ AcceptedText text
  -- the text of the table that it spells is this text
  pub undone : (found : AcceptedText text) → text_of (table_of found.0) ≡ text
  -- a target of 8,192 bytes always has room for it
  pub fitting : AcceptedText text → length text ≤ longest_text
  -- a text converted to a file and back is that text, byte for byte
  pub returned : (file target : List ℕ) → text_room ≤ length target → (to_file_answer text file).number ≡ 0
      → ((to_text_answer (file_written text file) target).number ≡ 0)
      × (text_written (file_written text file) target ≡ text)

-- of every accepted file, with its chains
pub record OfFile (f : File) (c : Chains) : Type 0 where
  -- "Text from a file, converted back, is the file in walk order."
  pub returned : (text target : List ℕ) → text_room ≤ length text → file_room ≤ length target
      → ((to_text_answer f text).number ≡ 0)
      × ((to_file_answer (text_written f text) target).number ≡ 0)
      × (file_written (text_written f text) target ≡ in_walk_order f c)

-- the demand: of every value of the table's type that is accepted, of every text, and of every accepted file of bytes
pub record TextDemand : Type 0 where
  pub of_tables : (t : Table) → Fits t → (a : Accepted) → accept_table t ≡ passed a → OfTable t
  pub of_texts : (text : Text) → OfText text
  pub of_files : (f : File) → Bytes f → (c : Chains) → chains_of f ≡ passed c → (a : Accepted) → accept f ≡ passed a
      → OfFile f c
