-- `plan_check::legality::legality_fault` meets its contract: the run's fault stands, and without one the rules decide.
-- Assumes nothing.
use Rattle.plan_check.specs.Laws.LegalityLaws.{fault_none, fault_told, ran_first, run_asks, rules_left}
use Rattle.plan_check.proofs.legality.legality_fault.Goals as goal

pub returns-in-Err : goal.returns-in-Err
returns-in-Err c = ran_first c.in-Err.is _

pub refuse_illegal-requires : goal.refuse_illegal-requires
refuse_illegal-requires c = (c.requires.0, run_asks c.in_default.is _ c.requires.1)

pub returns-in-Ok : goal.returns-in-Ok
returns-in-Ok c = rules_left c.in_default.is _ (fault_none c.in-Ok.ensures)

pub returns-in-Err-refuse_illegal : goal.returns-in-Err-refuse_illegal
returns-in-Err-refuse_illegal c =
    rules_left c.in_default.is _ (rw c.number.ensures (fault_told _ c.in-Err-refuse_illegal.ensures))
