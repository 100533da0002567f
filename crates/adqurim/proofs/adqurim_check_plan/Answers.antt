-- `adqurim::adqurim_check_plan` meets its contract: without room nothing is called, else the words are those of the plan
-- check's answer.
-- Assumes nothing.
use mathlib.Core.Path.{sym, ap, ◌∙◌}
use Prim.Native.Nat.{◌≤◌}
use native.Mathlib.Omega.{arith}
use lib.ListN.{length}
use borrow.Author.Rules.{rules}
use borrow.Author.Tests.{le-leb, lt-leb}
use Rattle.machine.specs.declared.RunAnswer.{RunAnswer}
use Rattle.adqurim_words.specs.Words.{words_of_run, run_words, filled_with}
use Rattle.adqurim.specs.Laws.EntryLaws.{run_unfilled}
use Rattle.adqurim.specs.Laws.RunSizes.{plan_sized}
use Rattle.adqurim.proofs.adqurim_check_plan.Goals as goal

pub returns-then-answer-lt-RUN_WORDS : goal.returns-then-answer-lt-RUN_WORDS
returns-then-answer-lt-RUN_WORDS c =
    record {
      room = sym (lt-leb _ _ c.if-answer-lt-RUN_WORDS.true);
      words = run_unfilled _ _ (plan_sized _ _) c.if-answer-lt-RUN_WORDS.true;
    }

pub returns : goal.returns
returns c =
    let lent = c.args.answer.now in
    let room : words_of_run ≤ length lent = omega (arith, c.if-answer-lt-RUN_WORDS.false) in
    let called = c.check_plan-checked.ensures in
    record {
      room = sym (le-leb _ _ room);
      words = c.put_run.ensures ∙ ap (λ (a : RunAnswer). filled_with (run_words a) lent) called;
    }
