-- The loop of `taskfile_judgement::judgement::judge_rates` keeps how far the check of the tasks' periods has come.
-- Assumes nothing.
use mathlib.Core.List.{map}
use Rattle.taskfile.specs.declared.Site.TheVariants.{AtTask}
use Rattle.taskfile.specs.Judgement.{task_numbers, of_task, rate_fault}
use Rattle.taskfile.proofs.Laws.JudgingLaws.{task_site}
use Rattle.notation.specs.Laws.SearchLaws.{CheckedTo}
use Rattle.taskfile_judgement.proofs.judgement.judge_rates.Given as goal

abbrev pub invariant-loop-i : goal.invariant-loop-i
invariant-loop-i l = CheckedTo 8 (of_task (rate_fault l.t)) (map (λ j. AtTask j) (task_numbers l.t)) task_site l.t.tasks l.i
