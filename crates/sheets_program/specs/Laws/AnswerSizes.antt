-- The length that the sheet's entry answers is within the text that it leaves.
-- Assumes nothing.
use Rattle.std.specs.Prelude.{◌≡◌, ℕ, ◌≤◌, List, length, drop}
use Rattle.std.proofs.Common.{ap, arith, length-append}
use Rattle.notation.specs.Checked.{Checked, refused, passed}
use Rattle.notation.specs.Texts.{Text}
use Rattle.taskfile.specs.Records.{File}
use Rattle.sheets.specs.declared.SheetAnswer.{SheetAnswer}
use Rattle.sheets.specs.Sheets.{printed, sheet_answer_of, sheet_after_of, sheet_answer, sheet_after}

within : (c : Checked ℕ Text) (text : List ℕ) → (sheet_answer_of c).length ≤ length (sheet_after_of c text)
unfolding sheet_answer_of sheet_after_of
within (refused number place) text = omega arith
within (passed sheet) text = omega (arith, length-append sheet (drop (length sheet) text))

pub answer_within : (f : File) (text : List ℕ) {x : SheetAnswer} {after : List ℕ} → x ≡ sheet_answer f text
    → after ≡ sheet_after f text → x.length ≤ length after
unfolding sheet_answer sheet_after
answer_within f text is left =
    omega (arith, ap (λ (y : SheetAnswer). y.length) is, ap (λ (l : List ℕ). length l) left, within (printed f text) text)
