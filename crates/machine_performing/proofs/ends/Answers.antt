-- `machine_performing::ends` meets its contract: operation 0 and every one above 11 is the definition's End.
-- Assumes nothing.
use Rattle.std.proofs.Common.{◌∙◌, sym, eq-eqb}
use Rattle.machine_performing.specs.Laws.EndLaws.{ended_zero, ended_else}
use Rattle.machine_performing.proofs.ends.Goals as goal

pub returns-then-o-eq-END : goal.returns-then-o-eq-END
returns-then-o-eq-END c = λ v l s. ended_zero _ v l s c.if-o-eq-END.true ∙ sym (eq-eqb _ _ c.if-o-eq-END.true)

pub returns-else-o-eq-END : goal.returns-else-o-eq-END
returns-else-o-eq-END c = λ v l s. ended_else _ v l s c.if-o-eq-END.false
