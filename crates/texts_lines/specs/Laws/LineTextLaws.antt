-- Laws of a text's lines as they are written: an instruction's line from its three parts.
-- Assumes nothing.
use Rattle.std.specs.Prelude.{◌≡◌, ℕ, List, [], ◌∷◌, length, take}
use Rattle.std.proofs.Common.{ap}
use Rattle.notation.specs.Letters.{newline}
use Rattle.taskfile.specs.declared.Instruction.{Instruction}
use Rattle.texts.specs.declared.Form.TheVariants.{InstructionLine}
use Rattle.texts.specs.Grammar.{line_text, row_of}
use Rattle.texts.specs.TextTables.{instruction_line}
use Rattle.notation_buffers.specs.declared.pages.Page.{Page}
use Rattle.notation_buffers.specs.Code.Pages.{Puts}
use Rattle.notation_buffers.specs.Code.Spaced.{spaced_numbers}
use Rattle.notation_buffers.specs.Laws.LineLaws.{numbers_put}
use Rattle.notation_buffers.specs.Laws.PageLaws.{puts_same}

pub instruction_line_put : (i : Instruction) {used : ℕ} {before one two after : Page}
    → used ≡ length (row_of (InstructionLine i.operation)).fields
    → Puts before (row_of (InstructionLine i.operation)).word one
    → Puts one (spaced_numbers (take used (i.a ∷ i.b ∷ i.c ∷ []))) two → Puts two (newline ∷ []) after
    → Puts before (line_text (instruction_line i)) after
unfolding line_text instruction_line
instruction_line_put i {used} is name fields end =
    let numbers : List ℕ = i.a ∷ i.b ∷ i.c ∷ [] in
    let row = row_of (InstructionLine i.operation) in
    numbers_put row.word (take (length row.fields) numbers) name
    (puts_same (ap (λ (k : ℕ). spaced_numbers (take k numbers)) is) fields) end
