-- One name for all definitions of plans, so that a proof by computing says `unfolding plans_opened`.
-- Assumes nothing.
use Rattle.plan.specs.Legality
use Rattle.plan.specs.Plans
use Rattle.plan.specs.Runs

unfoldable pub plans_opened : Unit {0}
unfolding Runs.guess Runs.job_total Runs.round_numbers Runs.step_bytes_for Runs.step_bytes Runs.step_effect Runs.step_made Runs.running_after Runs.run_job
    Runs.run_jobs Runs.run_start Runs.run_plan Legality.steps_of Legality.rounds_of Legality.start Legality.end
    Legality.before_rule Legality.apart Legality.nested Legality.no_step_within Legality.preempt_rule
    Legality.priority_at Legality.lock_rule Legality.pairs Legality.order_fault Legality.lock_fault
    Legality.due_store Legality.guess_fault Legality.legality Plans.legal_run Plans.plan_end Plans.check_plan
    Plans.checked Plans.plan_answer
plans_opened = tt
