-- `adqurim::adqurim_order_to_plan` meets its contract: without room nothing is called, else the words are those of the
-- conversion's answer and the buffer is as it leaves it.
-- Assumes nothing.
use mathlib.Core.Path.{sym, ap, ◌∙◌}
use Prim.Native.Nat.{◌≤◌}
use native.Mathlib.Omega.{arith}
use lib.ListN.{length}
use borrow.Author.Rules.{rules}
use borrow.Author.Tests.{le-leb, lt-leb}
use Rattle.machine.specs.declared.RunAnswer.{RunAnswer}
use Rattle.adqurim_words.specs.Words.{words_of_run, run_words, filled_with}
use Rattle.adqurim.specs.Laws.EntryLaws.{run_unfilled, buffer_kept, buffer_changed}
use Rattle.adqurim.specs.Laws.RunSizes.{planned_sized}
use Rattle.adqurim.proofs.adqurim_order_to_plan.Goals as goal

pub returns-then-answer-lt-RUN_WORDS : goal.returns-then-answer-lt-RUN_WORDS
returns-then-answer-lt-RUN_WORDS c =
    let short = c.if-answer-lt-RUN_WORDS.true in
    record { room = sym (lt-leb _ _ short); words = run_unfilled _ _ (planned_sized _ _ _) short; buffer = buffer_kept _ _ _ _ short }

pub returns : goal.returns
returns c =
    let lent = c.args.answer.now in
    let room : words_of_run ≤ length lent = omega (arith, c.if-answer-lt-RUN_WORDS.false) in
    let made = c.order_to_plan-planned.ensures in
    let put = c.put_run.ensures in
    record {
      room = sym (le-leb _ _ room);
      words = put ∙ ap (λ (x : RunAnswer). filled_with (run_words x) lent) made.answer;
      buffer = made.buffer ∙ buffer_changed _ _ _ _ room;
    }
