-- One name for all definitions of sheets, so that a proof by computing says `unfolding sheets_opened`.
-- Assumes nothing.
use Rattle.notation.specs.Texts
use Rattle.sheets.specs.Sheets
use Rattle.sheets.specs.SheetWords

unfoldable pub sheets_opened : Unit {0}
unfolding Texts.digit Texts.digits Texts.decimal Texts.spaced Texts.line SheetWords.tasks_word SheetWords.task_word
    SheetWords.jobs_word SheetWords.job_word SheetWords.response_word SheetWords.verdict_word SheetWords.holds_word
    SheetWords.fails_word SheetWords.order_word SheetWords.failed_word SheetWords.rounds_word SheetWords.refused_word
    Sheets.refused_line Sheets.totals_line Sheets.task_line Sheets.order_line Sheets.failed_line Sheets.rounds_line
    Sheets.rounds_lines Sheets.verdict_lines Sheets.findings Sheets.table_sheet Sheets.sheet_from Sheets.sheet_of
    Sheets.printed Sheets.sheet_answer_of Sheets.sheet_after_of Sheets.sheet_answer Sheets.sheet_after
sheets_opened = tt
