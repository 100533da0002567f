-- What the program `texts_program` prints: it reads a file or a text, and prints the other form, or the line of a
-- refusal. Document 02, E5: "Depot engineers exchange tables by mail and read records badly. .. Convert both ways."
-- Assumes nothing.
use Rattle.std.specs.Prelude.{ℕ, Bool, List, take, eqb}
use Rattle.std.specs.Prelude.{if◌then◌else◌}
use Rattle.notation.specs.Lists.{first_or}
use Rattle.notation.specs.Letters.{w}
use Rattle.sheets.specs.Sheets.{refused_line}
use Rattle.writer.specs.declared.WriteAnswer.{WriteAnswer}
use Rattle.texts.specs.TextEntries.{to_file_answer, to_file_after, to_text_answer, to_text_after}

-- a text begins with the first letter of `window`; a file's first byte is 1
unfoldable pub begins_text : List ℕ → Bool
begins_text bytes = eqb (first_or 0 bytes) w

-- a conversion's answer, and what its target then holds, as they are printed: the bytes up to the returned length, or
-- `refused` with number and place, as on the sheet
unfoldable pub shown : WriteAnswer → List ℕ → List ℕ
shown x target = if eqb x.number 0 then take x.length target else refused_line x.number x.place

-- a text's file, or a file's text, by way of a lent target
unfoldable pub turned : List ℕ → List ℕ → List ℕ
turned bytes target =
    if begins_text bytes
    then shown (to_file_answer bytes target) (to_file_after bytes target)
    else shown (to_text_answer bytes target) (to_text_after bytes target)
