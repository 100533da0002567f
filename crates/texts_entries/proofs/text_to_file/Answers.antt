-- `texts_entries::text_to_file` meets its contract: a text that is too long, one that is not read, and one whose table the
-- writer judges.
-- Assumes nothing.
use Rattle.std.proofs.Common.{◌∙◌}
use Rattle.texts_entries.specs.Laws.FiledLaws.{filed_long, filed_unread, filed_judged}
use Rattle.texts_entries.proofs.text_to_file.Goals as goal

pub returns-then-text-gt-TEXT_ROOM : goal.returns-then-text-gt-TEXT_ROOM
returns-then-text-gt-TEXT_ROOM c =
    let is = filed_long _ _ c.if-text-gt-TEXT_ROOM.true in
    let told = rw c.at.ensures at c.refused.ensures in
    record { answer = told ∙ is.0; written = is.1 }

pub returns-in-Err : goal.returns-in-Err
returns-in-Err c =
    let is = filed_unread _ _ c.if-text-gt-TEXT_ROOM.false _ _ c.in-Err.ensures in
    record { answer = c.refused-in-Err.ensures ∙ is.0; written = is.1 }

pub at_line-requires : goal.at_line-requires
at_line-requires c = c.write_table.ensures.small

pub returns-in-Ok : goal.returns-in-Ok
returns-in-Ok c =
    let is = filed_judged _ _ c.if-text-gt-TEXT_ROOM.false _ c.in-Ok.ensures
    c.write_table.ensures.answer c.write_table.ensures.written in
    record { answer = c.at_line.ensures ∙ is.0; written = is.1 }
