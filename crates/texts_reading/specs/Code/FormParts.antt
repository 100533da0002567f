-- A form by its word, in the parts of the code: the instructions apart. And the numbers of a form and of a
-- stage.
-- Assumes nothing.
use Rattle.std.specs.Prelude.{ℕ, map, length}
use Rattle.std.proofs.Math.Option.{Option}
use Rattle.notation.specs.Lists.{up_to, first_with, same}
use Rattle.notation.specs.Texts.{Text}
use Rattle.texts.specs.declared.Form.{Form}
use Rattle.texts.specs.declared.Form.TheVariants.{WindowLine, StartLine, TaskLine, InstructionLine, LockLine}
use Rattle.texts.specs.Grammar.{row_of, operation_rows, at_window, at_start, at_tasks, in_body, at_locks}
use Rattle.texts_reading.specs.declared.line_forms.Stage.{Stage}
use Rattle.texts_reading.specs.declared.line_forms.Stage.TheVariants.{Window, Start, Tasks, Body, Locks}

-- the form of an instruction whose lines begin with a word
unfoldable pub operation_named : Text → Option Form
operation_named word =
    first_with (λ form. same (row_of form).word word) (map (λ o. InstructionLine o) (up_to (length operation_rows)))

-- all instructions have the same stages, and so one number
unfoldable pub form_number : Form → ℕ
form_number WindowLine = 0
form_number StartLine = 1
form_number TaskLine = 2
form_number (InstructionLine operation) = 3
form_number LockLine = 4

-- the stage by its number
abbrev pub stage_number : Stage → ℕ
stage_number Window = at_window
stage_number Start = at_start
stage_number Tasks = at_tasks
stage_number Body = in_body
stage_number Locks = at_locks
