-- `adqurim::adqurim_table` meets its contract: without room nothing is called, else the words are those of the
-- table's answer and the memory is as it leaves it.
-- Assumes nothing.
use mathlib.Core.Path.{sym, ap, ◌∙◌}
use Prim.Native.Nat.{◌≤◌}
use native.Mathlib.Omega.{arith}
use lib.ListN.{length}
use borrow.Author.Rules.{rules}
use borrow.Author.Tests.{le-leb, lt-leb}
use Rattle.writer.specs.declared.WriteAnswer.{WriteAnswer}
use Rattle.adqurim_words.specs.Words.{words_of_write, write_words, filled_with}
use Rattle.adqurim.specs.Laws.EntryLaws.{write_unfilled, buffer_kept, buffer_changed}
use Rattle.adqurim.proofs.adqurim_table.Goals as goal

pub returns-then-answer-lt-TABLE_WORDS : goal.returns-then-answer-lt-TABLE_WORDS
returns-then-answer-lt-TABLE_WORDS c =
    let short = c.if-answer-lt-TABLE_WORDS.true in
    record { room = sym (lt-leb _ _ short); words = write_unfilled _ _ short; memory = buffer_kept _ _ _ _ short }

pub returns : goal.returns
returns c =
    let lent = c.args.answer.now in
    let room : words_of_write ≤ length lent = omega (arith, c.if-answer-lt-TABLE_WORDS.false) in
    let made = c.fill_table-filled.ensures in
    let put = c.put_write.ensures in
    record {
      room = sym (le-leb _ _ room);
      words = put ∙ ap (λ (x : WriteAnswer). filled_with (write_words x) lent) made.answer;
      memory = made.written ∙ buffer_changed _ _ _ _ room;
    }
