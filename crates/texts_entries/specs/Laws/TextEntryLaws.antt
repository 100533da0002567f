-- The text that is written of an accepted file's table has room.
-- Assumes nothing.
use Rattle.std.specs.Prelude.{◌≡◌, ◌≤◌, length}
use Rattle.std.proofs.Common.{sym, subst}
use Rattle.notation.specs.Checked.{passed, mapped}
use Rattle.taskfile.specs.declared.Table.{Table}
use Rattle.taskfile.specs.Records.{File}
use Rattle.timing.specs.declared.AcceptedFile.{AcceptedFile}
use Rattle.timing.specs.Accepted.{accept}
use Rattle.timing.specs.Code.AcceptParts.{accepted_file}
use Rattle.timing.proofs.Laws.AcceptLaws.{accepted_passed}
use Rattle.writer.specs.Values.{Bytes}
use Rattle.texts.proofs.Laws.LongestText.{file_longest}
use Rattle.texts.specs.TextTables.{text_of}

-- as the reader yields the table
pub text_fits : (f : File) → Bytes f → {x : AcceptedFile} → passed x ≡ mapped accepted_file (accept f)
    → length (text_of x.table) ≤ 2_091
text_fits f small says =
    let found = accepted_passed (accept f) says in
    subst (λ (t : Table). length (text_of t) ≤ 2_091) (sym found.2.table) (file_longest f small found.1)
