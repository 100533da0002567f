-- `texts_program::convert` meets its contract: a text, or a file.
-- Assumes nothing.
use mathlib.Core.Path.{sym, ◌∙◌}
use Rattle.texts_program.specs.Laws.TurnLaws.{text_converted, file_converted}
use Rattle.texts_program.proofs.convert.Goals as goal

pub returns-then-begins_text : goal.returns-then-begins_text
returns-then-begins_text c =
    text_converted _ _ (sym c.if-begins_text.true ∙ c.begins_text.ensures)
    (c.text_to_file.ensures.answer, c.text_to_file.ensures.written)

pub returns-else-begins_text : goal.returns-else-begins_text
returns-else-begins_text c =
    file_converted _ _ (sym c.if-begins_text.false ∙ c.begins_text.ensures)
    (c.file_to_text.ensures.answer, c.file_to_text.ensures.written)
