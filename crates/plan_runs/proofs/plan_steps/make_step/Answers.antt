-- `plan_runs::plan_steps::make_step` meets its contract.
-- Assumes nothing.
use mathlib.Core.Path.{◌∙◌, ap}
use Rattle.machine.specs.Instructions.{perform}
use Rattle.plan_runs.proofs.plan_steps.make_step.Goals as goal

pub returns : goal.returns
returns c =
    record { effect = c.perform_instruction-effect.ensures ∙ ap (perform _ _ _) c.store_of.ensures; stores = c.put_store.ensures }
