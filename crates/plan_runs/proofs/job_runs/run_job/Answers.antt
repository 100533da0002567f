-- What `plan_runs::job_runs::run_job` owes and the search does not find.
use native.Mathlib.Omega.{arith}
use mathlib.Core.Path.{refl}
use Rattle.std.proofs.lemmas.Result.{err_from_is_err_and}
use Rattle.order_states.specs.Code.SnapshotSteps.{owner_in}
use Rattle.plan_marks.specs.Laws.MarkLaws.{mark_written}
use Rattle.plan_runs.specs.Laws.ByteLaws.{bytes_there, bytes_round}
use Rattle.plan_runs.specs.Laws.JobLaws.{run_starts, run_over, run_used, run_refused_lem, run_ended, run_goes}
use Rattle.plan_runs.specs.Laws.StepLaws.{may_bounds}
use Rattle.plan_runs.proofs.job_runs.run_job.Goals as goal

pub loop-n-init : goal.loop-n-init
unfolding owner_in
loop-n-init c =
    rw c.from.ensures
    (run_starts _ _ _ _ _ _ _ _ (omega arith) refl c.fresh_local-local.ensures)

pub instruction_at-i-requires : goal.instruction_at-i-requires
instruction_at-i-requires c = may_bounds _ _ c.may_step.ensures c.if-not-may_step.false

pub step_fault-requires : goal.step_fault-requires
step_fault-requires c =
    omega (arith, c.loop-n.invariant.near, c.loop-n.invariant.few, c.requires)

pub returns-in_err-step_fault : goal.returns-in_err-step_fault
returns-in_err-step_fault c =
    let p = err_from_is_err_and c.from_residual.result c.from_residual.ensures.1 in
    rw (p.1, p.2)
    (run_refused_lem c.loop-n.invariant (omega arith) c.instruction_at-i.ensures c.loop-n-test.true
    c.in_err-step_fault.ensures)

pub make_step-effect-requires : goal.make_step-effect-requires
make_step-effect-requires c =
    let bounds = may_bounds _ _ c.may_step.ensures c.if-not-may_step.false in
    let few = bytes_round _ _ _ _ _ c.in_ok-step_fault.ensures in record {
      bytes = (bytes_there _ _ _ _ _ c.in_ok-step_fault.ensures, omega (arith, few, c.requires));
      bounds = (bounds.1, c.loop-n.invariant.within);
    }

pub mark_step-previous-requires : goal.mark_step-previous-requires
mark_step-previous-requires c = record {
  bytes = bytes_there _ _ _ _ _ c.in_ok-step_fault.ensures;
  bounds = c.loop-n-test.true;
}

pub overflow_add-offset : goal.overflow_add-offset
overflow_add-offset c =
    omega (arith, c.loop-n.invariant.near, c.loop-n.invariant.few, c.requires)

pub returns-then-effect : goal.returns-then-effect
returns-then-effect c =
    run_ended c.loop-n.invariant (omega arith) c.instruction_at-i.ensures c.loop-n-test.true
    c.in_ok-step_fault.ensures c.args.x.below c.requires.0
    c.make_step-effect.ensures.effect c.make_step-effect.ensures.stores
    (mark_written _ _ _ c.loop-n-test.true _ _ c.mark_step-previous.ensures.counts c.mark_step-previous.ensures.steps)
    refl c.if-effect.true

pub loop-n-preserved : goal.loop-n-preserved
loop-n-preserved c =
    run_goes c.loop-n.invariant (omega arith) c.instruction_at-i.ensures c.loop-n-test.true
    c.in_ok-step_fault.ensures c.args.x.below c.requires.0
    c.make_step-effect.ensures.effect c.make_step-effect.ensures.stores
    (mark_written _ _ _ c.loop-n-test.true _ _ c.mark_step-previous.ensures.counts c.mark_step-previous.ensures.steps)
    refl c.mark_step-previous.ensures.round c.if-effect.false

pub returns-after-loop-n : goal.returns-after-loop-n
returns-after-loop-n c = run_used c.loop-n.invariant (omega arith) (omega arith)

pub returns-then-not-may_step : goal.returns-then-not-may_step
returns-then-not-may_step c =
    run_over c.loop-n.invariant (omega arith) c.may_step.ensures c.if-not-may_step.true
