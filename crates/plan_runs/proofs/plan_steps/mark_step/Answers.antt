-- `plan_runs::plan_steps::mark_step` meets its contract.
-- Assumes nothing.
use mathlib.Core.Path.{refl, ◌∙◌}
use Rattle.plan_runs.specs.Laws.StepLaws.{mark_listed}
use Rattle.plan_runs.proofs.plan_steps.mark_step.Goals as goal

pub returns : goal.returns
returns c = record {
  round = refl;
  counts = c.put_mark.ensures.counts;
  steps = c.put_mark.ensures.steps ∙ mark_listed _ _ _ _ c.priority_of-priority.ensures;
}
