-- `adqurim::adqurim_read` meets its contract: without room nothing is called, else the words are those of the
-- reader's answer.
-- Assumes nothing.
use mathlib.Core.Path.{sym, ap, ◌∙◌}
use Prim.Native.Nat.{◌≤◌}
use native.Mathlib.Omega.{arith}
use lib.ListN.{length}
use borrow.Author.Rules.{rules}
use borrow.Author.Tests.{le-leb, lt-leb}
use Rattle.timing.specs.declared.ReadAnswer.{ReadAnswer}
use Rattle.adqurim_words.specs.Words.{words_of_read, read_words, filled_with}
use Rattle.adqurim.specs.Laws.EntryLaws.{read_unfilled}
use Rattle.adqurim.proofs.adqurim_read.Goals as goal

pub returns-then-answer-lt-READ_WORDS : goal.returns-then-answer-lt-READ_WORDS
returns-then-answer-lt-READ_WORDS c =
    record {
      room = sym (lt-leb _ _ c.if-answer-lt-READ_WORDS.true);
      words = read_unfilled _ _ c.if-answer-lt-READ_WORDS.true;
    }

pub returns : goal.returns
returns c =
    let lent = c.args.answer.now in
    let room : words_of_read ≤ length lent = omega (arith, c.if-answer-lt-READ_WORDS.false) in
    let called = c.read-a.ensures in
    record {
      room = sym (le-leb _ _ room);
      words = c.put_read.ensures ∙ ap (λ (a : ReadAnswer). filled_with (read_words a) lent) called;
    }
