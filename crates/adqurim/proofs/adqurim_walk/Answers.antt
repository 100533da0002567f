-- `adqurim::adqurim_walk` meets its contract: without room nothing is called, else the words are those of the walk's
-- answer and the buffer is as the walk leaves it.
-- Assumes nothing.
use mathlib.Core.Path.{sym, ap, ◌∙◌}
use Prim.Native.Nat.{◌≤◌}
use native.Mathlib.Omega.{arith}
use lib.ListN.{length}
use borrow.Author.Rules.{rules}
use borrow.Author.Tests.{le-leb, lt-leb}
use Rattle.walk.specs.declared.WalkAnswer.{WalkAnswer}
use Rattle.adqurim_words.specs.Words.{words_of_walk, walk_words, filled_with}
use Rattle.adqurim.specs.Laws.EntryLaws.{walk_unfilled, buffer_kept, buffer_changed}
use Rattle.adqurim.proofs.adqurim_walk.Goals as goal

pub returns-then-answer-lt-WALK_WORDS : goal.returns-then-answer-lt-WALK_WORDS
returns-then-answer-lt-WALK_WORDS c =
    let short = c.if-answer-lt-WALK_WORDS.true in
    record { room = sym (lt-leb _ _ short); words = walk_unfilled _ _ _ _ short; buffer = buffer_kept _ _ _ _ short }

pub returns : goal.returns
returns c =
    let lent = c.args.answer.now in
    let room : words_of_walk ≤ length lent = omega (arith, c.if-answer-lt-WALK_WORDS.false) in
    let walked = c.walk_file-x.ensures in
    let put = c.put_walk.ensures in
    record {
      room = sym (le-leb _ _ room);
      words = put ∙ ap (λ (x : WalkAnswer). filled_with (walk_words x) lent) walked.answer;
      buffer = walked.buffer ∙ buffer_changed _ _ _ _ room;
    }
