-- Computed examples: a small table's text, its reading, and where texts are refused.
-- Assumes nothing.
use Rattle.std.specs.Prelude.{◌≡◌, refl, [], ◌∷◌}
use Rattle.notation.specs.Checked.{refused, passed, require, given, placed_by, ◌>>=◌, ◌>>◌}
use Rattle.std.specs.Prelude.{if◌then◌else◌}
use Rattle.notation.specs.Lists.{up_to, from, all, first_with, first_or, same, each, bytes_at, padded}
use Rattle.notation.specs.Letters.{space, newline, d0, d1, d2, d3, d4, d5, d6, d7, d9, a, c, d, e, i}
use Rattle.notation.specs.Letters.{k, l, n, o, p, r, s, t, w}
use Rattle.notation.specs.Texts.{digit, digits, decimal, spaced, line}
use Rattle.sheets.specs.SheetWords.{task_word}
use Rattle.taskfile.specs.Records.{tidy_instruction, fields_in_range, choice_in_range, instruction_in_range}
use Rattle.taskfile.specs.Records.{uses_of, operation_uses}
use Rattle.taskfile.specs.Records.{kind_number, tidy_field, field_in_range}
use Rattle.taskfile.specs.Tables.{tasks_of, body_of, no_task}
use Rattle.writer.specs.Claims.{claimed, claimed_tasks, claimed_body, lock_by_lock, claimed_locks}
use Rattle.writer.specs.Positions.{position_where}
use Rattle.writer.specs.Sites.{body_sites, task_sites, sites, site_numbers, same_site, index_of}
use Rattle.writer.specs.Fields.{body_fields, task_fields, fields, judged_whole, accept_table}
use Rattle.writer.specs.WriteEntries.{written}
use Rattle.writer.proofs.Laws.WriterExamples.{small}
use Rattle.texts.specs.declared.Form.TheVariants.{InstructionLine}
use Rattle.texts.specs.Grammar.{row_of, operation_rows, line_with, line_text, joined, fits, may_come, in_body}
use Rattle.texts.specs.Reading.{begins, parts, is_digit, is_empty, is_numeral, value_after, value_of, forms}
use Rattle.texts.specs.Reading.{form_named, line_read, lines_read, text_read}
use Rattle.texts.specs.TextEntries.{filed, line_of_record}
use Rattle.texts.specs.TextTables.{instruction_with, task_with, lock_with, in_front, grouped, table_of}
use Rattle.texts.specs.TextTables.{table_lines, task_lines, instruction_line, lock_line, text_of}
use Rattle.texts.specs.Words.{window_word, start_word, lock_word, end_word, load_word, store_word, set_word, add_word}
use Rattle.texts.specs.Words.{subtract_word, less_word, equal_word, pick_word, acquire_word, release_word, assert_word}

-- all that reading and writing a text rests on
unfoldable opened : Unit {0}
unfolding text_read lines_read line_read form_named forms value_of value_after is_numeral is_empty is_digit parts begins
    may_come fits joined line_text operation_rows row_of text_of lock_line instruction_line task_lines table_lines
    window_word start_word lock_word end_word load_word store_word set_word add_word subtract_word less_word equal_word pick_word
    acquire_word release_word assert_word task_word line spaced decimal digits digit bytes_at each same first_or first_with all
    from up_to given require ◌>>=◌ ◌>>◌ tasks_of body_of lock_by_lock no_task padded small
opened = tt

-- the lines of a table with two tasks and a lock
pub small_text : text_of (small 5 2 1) ≡ (w ∷ i ∷ n ∷ d ∷ o ∷ w ∷ space ∷ d5 ∷ newline
    ∷ s ∷ t ∷ a ∷ r ∷ t ∷ space ∷ d9 ∷ space ∷ d0 ∷ space ∷ d0 ∷ space ∷ d0 ∷ space ∷ d0 ∷ space ∷ d0 ∷ space
    ∷ d0 ∷ space ∷ d0 ∷ newline
    ∷ t ∷ a ∷ s ∷ k ∷ space ∷ d2 ∷ space ∷ d2 ∷ d6 ∷ d0 ∷ space ∷ d0 ∷ newline
    ∷ s ∷ e ∷ t ∷ space ∷ d0 ∷ space ∷ d1 ∷ newline
    ∷ e ∷ n ∷ d ∷ newline
    ∷ t ∷ a ∷ s ∷ k ∷ space ∷ d1 ∷ space ∷ d4 ∷ space ∷ d1 ∷ newline
    ∷ e ∷ n ∷ d ∷ newline
    ∷ l ∷ o ∷ c ∷ k ∷ space ∷ d1 ∷ space ∷ d6 ∷ d6 ∷ d0 ∷ d5 ∷ d1 ∷ newline ∷ [])
unfolding opened
small_text = refl

-- and read back
pub small_lines : text_read (text_of (small 5 2 1)) ≡ passed (table_lines (small 5 2 1))
unfolding opened
small_lines = refl

-- an empty text has no window
pub text_none : text_read [] ≡ refused 60 0
unfolding opened
text_none = refl

-- the start values are missing
pub text_start_missing : text_read (w ∷ i ∷ n ∷ d ∷ o ∷ w ∷ space ∷ d1 ∷ newline ∷ []) ≡ refused 60 1
unfolding opened
text_start_missing = refl

-- a leading zero
pub text_zero_led : text_read (w ∷ i ∷ n ∷ d ∷ o ∷ w ∷ space ∷ d0 ∷ d1 ∷ newline ∷ []) ≡ refused 60 0
unfolding opened
text_zero_led = refl

-- no newline at the end
pub text_newline_missing : text_read (w ∷ i ∷ n ∷ d ∷ o ∷ w ∷ space ∷ d1 ∷ []) ≡ refused 60 0
unfolding opened
text_newline_missing = refl

-- a number too large, and nothing after it
pub text_large_first : text_read (w ∷ i ∷ n ∷ d ∷ o ∷ w ∷ space
    ∷ d4 ∷ d2 ∷ d9 ∷ d4 ∷ d9 ∷ d6 ∷ d7 ∷ d2 ∷ d9 ∷ d6 ∷ newline ∷ []) ≡ refused 61 0
unfolding opened
text_large_first = refl

-- 60 before 61 on a line
pub text_large_words : text_read (w ∷ i ∷ n ∷ d ∷ o ∷ w ∷ space
    ∷ d4 ∷ d2 ∷ d9 ∷ d4 ∷ d9 ∷ d6 ∷ d7 ∷ d2 ∷ d9 ∷ d6 ∷ space ∷ d1 ∷ newline ∷ []) ≡ refused 60 0
unfolding opened
text_large_words = refl

-- document 02, E7: a Pick's line has c too, "so an old text's `pick` line with two numbers earns 60"
pub pick_three : line_read 4 in_body (p ∷ i ∷ c ∷ k ∷ space ∷ d0 ∷ space ∷ d6 ∷ space ∷ d3 ∷ [])
    ≡ passed (line_with (InstructionLine 8) (0 ∷ 6 ∷ 3 ∷ []))
unfolding opened
pick_three = refl

pub pick_two : line_read 4 in_body (p ∷ i ∷ c ∷ k ∷ space ∷ d0 ∷ space ∷ d6 ∷ []) ≡ refused 60 4
unfolding opened
pick_two = refl

-- ---- the places of the table's own numbers

-- all that judging a text's table rests on
unfoldable judging : Unit {0}
unfolding opened filed line_of_record table_of grouped in_front task_with lock_with instruction_with
    written accept_table judged_whole placed_by index_of fields
    task_fields body_fields body_sites task_sites sites site_numbers kind_number same_site position_where claimed_tasks claimed_body
    claimed_locks claimed tidy_instruction
    fields_in_range choice_in_range instruction_in_range uses_of operation_uses tidy_field field_in_range
judging = tt

-- a window of 0 stands in the header, whose line is 0
pub text_header : filed (text_of (small 0 2 1)) [] ≡ refused 4 0
unfolding judging
text_header = refl

-- the second task is the record 4, whose line is 5
pub text_task : filed (text_of (small 5 2 0)) [] ≡ refused 4 5
unfolding judging
text_task = refl
