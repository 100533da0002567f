-- A law of a stage as the byte that a cast makes of it.
-- Assumes nothing.
use denote.Enum.Declared.{tag_of}
use Rattle.std.specs.Prelude.{◌≡◌, refl}
use Rattle.texts_reading.specs.Code.FormParts.{stage_number}
use Rattle.texts_reading.specs.contracts.line_forms.Stage.{the_type}
use Rattle.texts_reading.specs.declared.line_forms.Stage.{Stage}
use Rattle.texts_reading.specs.declared.line_forms.Stage.TheVariants.{Window, Start, Tasks, Body, Locks}

pub stage_cast : (stage : Stage) → tag_of the_type stage ≡ stage_number stage
stage_cast Window = refl
stage_cast Start = refl
stage_cast Tasks = refl
stage_cast Body = refl
stage_cast Locks = refl
