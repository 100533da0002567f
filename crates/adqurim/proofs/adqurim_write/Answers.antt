-- `adqurim::adqurim_write` meets its contract: where too little is lent nothing is called, else the words are those of the
-- writer's answer and the file is as it leaves it.
-- Assumes nothing.
use borrow.Author.Rules.{rules}
use Rattle.adqurim.specs.Laws.EntryLaws.{few_words, short_table, enough_lent}
use Rattle.adqurim.proofs.adqurim_write.Goals as goal

pub returns-then-answer-lt-WRITE_WORDS : goal.returns-then-answer-lt-WRITE_WORDS
returns-then-answer-lt-WRITE_WORDS c = let none = few_words _ _ _ c.if-answer-lt-WRITE_WORDS.true in record { room = none.0; words = none.1; written = none.2 }

pub returns-then-table-lt-TABLE_ROOM : goal.returns-then-table-lt-TABLE_ROOM
returns-then-table-lt-TABLE_ROOM c =
    let none = short_table _ _ _ c.if-answer-lt-WRITE_WORDS.false c.if-table-lt-TABLE_ROOM.true in record {
      room = none.0;
      words = none.1;
      written = none.2;
    }

pub returns : goal.returns
returns c =
    let does =
    enough_lent _ _ _ c.if-answer-lt-WRITE_WORDS.false c.if-table-lt-TABLE_ROOM.false c.table_in-t.ensures
    (c.write_table-x.ensures.answer, c.write_table-x.ensures.written)
    c.put_write.ensures
    in
    record { room = does.0; words = does.1; written = does.2 }
