-- What `taskfile_judgement::judgement::judge_rates` owes and the search does not find.
use mathlib.Core.Path.{sym}
use Rattle.taskfile.proofs.Laws.JudgingLaws.{task_sites_by, task_faulty, task_sound, rate_first, rate_above, rate_within}
use Rattle.notation.specs.Laws.SearchLaws.{check_starts, check_goes_on, check_refuses, check_ends}
use Rattle.taskfile_judgement.proofs.judgement.judge_rates.Goals as goal
use Rattle.taskfile_judgement.proofs.judgement.judge_rates.Goals.{else-at-gt0-via-then-at-gt0+else-t-at, else-at-gt0-via-else-at-gt0}

pub loop-i-init : goal.loop-i-init
loop-i-init c = check_starts _ _ _ _ _ (task_sites_by _ c.requires)

pub returns-then-t-at : goal.returns-then-t-at
returns-then-t-at c =
    let below = c.loop-i-test.true in
    rw c.at.ensures
    (sym (check_refuses _ _ _ _ _ _ c.loop-i.invariant _ below
    (task_faulty _ _ _ (rate_above _ c.requires _ c.if-at-gt0.true below _ c.if-t-at.true))))

pub loop-i-preserved : goal.loop-i-preserved
loop-i-preserved c =
    let below = c.loop-i-test.true in
    check_goes_on _ _ _ _ _ _ c.loop-i.invariant below
    (task_sound _ _ _
    (elim c.else-at-gt0.branch [
      | else-at-gt0-via-then-at-gt0+else-t-at w ↦ rate_within _ c.requires _ w.if-at-gt0.true below _ w.if-t-at.false
      | else-at-gt0-via-else-at-gt0 w ↦ rate_first _ c.requires _ w.if-at-gt0.false
    ]))

pub returns : goal.returns
returns c = sym (check_ends _ _ _ _ _ _ c.loop-i.invariant c.loop-i-test.false)
