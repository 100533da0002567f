-- What the numbers of a line may be where they go into a table: an instruction holds all of a, b and c, also those that
-- its operation does not use.
-- Assumes nothing.
use Rattle.std.specs.Prelude.{◌≡◌, ℕ, true, List, length, take, replicate}
use Rattle.texts.specs.declared.Form.{Form}
use Rattle.texts.specs.declared.Form.TheVariants.{WindowLine, StartLine, TaskLine, InstructionLine, LockLine}
use Rattle.texts.specs.Grammar.{row_of, fits, byte_field}

-- the limits of the fields of a table that a line's numbers go into
unfoldable pub part_fields : Form → List ℕ
part_fields WindowLine = (row_of WindowLine).fields
part_fields StartLine = (row_of StartLine).fields
part_fields TaskLine = (row_of TaskLine).fields
part_fields (InstructionLine operation) = replicate 3 byte_field
part_fields LockLine = (row_of LockLine).fields

-- the numbers at the front of an array fit them
abbrev pub PartFits : Form → List ℕ → Type 0
PartFits form numbers = fits (part_fields form) (take (length (part_fields form)) numbers) ≡ true
