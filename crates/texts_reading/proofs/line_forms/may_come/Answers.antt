-- `texts_reading::line_forms::may_come` meets its contract: a stage that is held against others is a number.
-- Assumes nothing.
use Rattle.std.proofs.Common.{arith}
use Rattle.std.proofs.lemmas.Grind.{common_steps}
use Rattle.texts.specs.Grammar.{may_come}
use Rattle.texts_reading.specs.Laws.StageLaws.{stage_cast}
use Rattle.texts_reading.proofs.line_forms.may_come.Goals as goal

pub returns-then-earliest-stage : goal.returns-then-earliest-stage
unfolding may_come
returns-then-earliest-stage c =
    let first = stage_cast c.stages_of-earliest.result.0 in
    let last = stage_cast c.stages_of-earliest.result.1 in
    grind (arith, common_steps)

pub returns-else-earliest-stage : goal.returns-else-earliest-stage
unfolding may_come
returns-else-earliest-stage c =
    let first = stage_cast c.stages_of-earliest.result.0 in
    let last = stage_cast c.stages_of-earliest.result.1 in
    grind (arith, common_steps)
