-- `machine_performing::effects::assert_in` meets its contract: the job goes on, and the answer is the test on what
-- `register_in` gives.
-- Assumes nothing.
use Rattle.std.proofs.Common.{ℕ, eqb, refl, ap}
use Rattle.machine.specs.Instructions.{assert}
use Rattle.machine_performing.specs.Laws.PerformedLaws.{performed_as}
use Rattle.machine_performing.proofs.effects.assert_in.Goals as goal

pub returns : goal.returns
unfolding assert
returns c =
    record {
      failed = ap (λ (x : ℕ). eqb x 0) c.register_in-x.ensures;
      made = performed_as c.go_on.ensures _ refl refl;
    }
