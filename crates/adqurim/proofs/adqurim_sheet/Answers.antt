-- `adqurim::adqurim_sheet` meets its contract: without room nothing is called, else the words are those of the sheet's
-- answer and the text is as it leaves it.
-- Assumes nothing.
use mathlib.Core.Path.{sym, ap, ◌∙◌}
use Prim.Native.Nat.{◌≤◌}
use native.Mathlib.Omega.{arith}
use lib.ListN.{length}
use borrow.Author.Rules.{rules}
use borrow.Author.Tests.{le-leb, lt-leb}
use Rattle.sheets.specs.declared.SheetAnswer.{SheetAnswer}
use Rattle.adqurim_words.specs.Words.{words_of_sheet, sheet_words, filled_with}
use Rattle.adqurim.specs.Laws.EntryLaws.{sheet_unfilled, buffer_kept, buffer_changed}
use Rattle.adqurim.proofs.adqurim_sheet.Goals as goal

pub returns-then-answer-lt-SHEET_WORDS : goal.returns-then-answer-lt-SHEET_WORDS
returns-then-answer-lt-SHEET_WORDS c =
    let short = c.if-answer-lt-SHEET_WORDS.true in
    record { room = sym (lt-leb _ _ short); words = sheet_unfilled _ _ short; written = buffer_kept _ _ _ _ short }

pub returns : goal.returns
returns c =
    let lent = c.args.answer.now in
    let room : words_of_sheet ≤ length lent = omega (arith, c.if-answer-lt-SHEET_WORDS.false) in
    let made = c.fill_sheet-sheet.ensures in
    let put = c.put_sheet_words.ensures in
    record {
      room = sym (le-leb _ _ room);
      words = put ∙ ap (λ (x : SheetAnswer). filled_with (sheet_words x) lent) made.answer;
      written = made.written ∙ buffer_changed _ _ _ _ room;
    }
