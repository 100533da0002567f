-- `texts_reading::line_forms::form_named` meets its contract: the words are tried in the order of the forms, the
-- instructions last.
-- Assumes nothing.
use mathlib.Core.Path.{sym, ◌∙◌}
use Rattle.sheets.specs.SheetWords.{task_word}
use Rattle.texts.specs.Grammar.{row_of}
use Rattle.texts.specs.Words.{window_word, start_word, lock_word}
use Rattle.texts_reading.specs.Laws.FormNamedLaws.{named_window, named_start, named_task, named_lock}
use Rattle.texts_reading.specs.Laws.FormNamedLaws.{named_operation}
use Rattle.texts_reading.proofs.line_forms.form_named.Goals as goal

pub returns-then-is_word : goal.returns-then-is_word
unfolding row_of window_word
returns-then-is_word c = named_window _ (sym c.if-is_word.true ∙ c.is_word.ensures)

pub returns-then-is_word-2 : goal.returns-then-is_word-2
unfolding row_of window_word start_word
returns-then-is_word-2 c =
    named_start _ (sym c.if-is_word.false ∙ c.is_word.ensures)
    (sym c.if-is_word-2.true ∙ c.is_word-else-is_word.ensures)

pub returns-then-is_word-3 : goal.returns-then-is_word-3
unfolding row_of window_word start_word task_word
returns-then-is_word-3 c =
    named_task _ (sym c.if-is_word.false ∙ c.is_word.ensures)
    (sym c.if-is_word-2.false ∙ c.is_word-else-is_word.ensures)
    (sym c.if-is_word-3.true ∙ c.is_word-else-is_word-2.ensures)

pub returns-then-is_word-4 : goal.returns-then-is_word-4
unfolding row_of window_word start_word task_word lock_word
returns-then-is_word-4 c =
    named_lock _ (sym c.if-is_word.false ∙ c.is_word.ensures)
    (sym c.if-is_word-2.false ∙ c.is_word-else-is_word.ensures)
    (sym c.if-is_word-3.false ∙ c.is_word-else-is_word-2.ensures)
    (sym c.if-is_word-4.true ∙ c.is_word-else-is_word-3.ensures)

pub returns-else-is_word-4 : goal.returns-else-is_word-4
unfolding row_of window_word start_word task_word lock_word
returns-else-is_word-4 c =
    c.operation_named.ensures
    ∙ named_operation _ (sym c.if-is_word.false ∙ c.is_word.ensures)
    (sym c.if-is_word-2.false ∙ c.is_word-else-is_word.ensures)
    (sym c.if-is_word-3.false ∙ c.is_word-else-is_word-2.ensures)
    (sym c.if-is_word-4.false ∙ c.is_word-else-is_word-3.ensures)
