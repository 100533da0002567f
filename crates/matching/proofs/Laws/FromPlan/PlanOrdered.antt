-- The order of a legal plan is complete and ends as the plan does, and the plan of that order is the same plan.
-- Assumes nothing.
use Rattle.std.specs.Prelude.{◌≡◌, ℕ, List}
use Rattle.std.proofs.Common.{sym, ap, ◌∙◌, arith}
use Rattle.std.proofs.Math.Option.{some}
use Rattle.timing.specs.Accepted.{Accepted}
use Rattle.timing.specs.Code.IsAccepted.{IsAccepted}
use Rattle.timing.proofs.Laws.JobFacts.{jobs_few}
use Rattle.machine.specs.Instructions.{Store}
use Rattle.order.proofs.Laws.LengthLaws.{order_short}
use Rattle.order.specs.Orders as orders
use Rattle.order.specs.Orders.{run, Complete}
use Rattle.order.specs.States.{State, initial}
use Rattle.plan.specs.Plans as plans
use Rattle.plan.specs.Plans.{Legal}
use Rattle.plan.specs.Runs.{Plan, JobRuns, job_total}
use Rattle.matching.specs.Conversions.{plan_of, order_of}
use Rattle.matching.proofs.Laws.FromPlan.Cuts.{sequence}
use Rattle.matching.proofs.Laws.FromPlan.LegalLaws.{legal_run_lem}
use Rattle.matching.proofs.Laws.FromOrder.OrderRuns.{complete_traced}
use Rattle.matching.proofs.Laws.FromPlan.PlanColumns.{legal_back}
use Rattle.matching.proofs.Laws.FromPlan.PlanEnds.{plan_taken, taken_ended, taken_store, taken_failed, taken_marks, taken_guesses}
use Rattle.matching.proofs.Laws.FromPlan.PlanKept.{done_bytes, PlanKept}
use Rattle.matching.proofs.Laws.History.PlanReading.{marks_of, guesses_of, written}
use Rattle.matching.proofs.Laws.History.RowLaws.{rows_order}
use Rattle.matching.proofs.Laws.FromPlan.RunLaws.{run_steps}
use Rattle.matching.proofs.Laws.FromPlan.SequenceLaws.{rows_sequence}
use Rattle.matching.proofs.Laws.FromOrder.TraceSteps.{trace_of}

-- ---- the plan's order

module _ {a : Accepted} (ok : IsAccepted a) (plan : Plan) {runs : JobRuns} (legal : Legal a plan runs) where
  -- it is the bytes of the plan's steps, read by rows
  order_bytes : order_of a runs ≡ done_bytes a (sequence (job_total a) (marks_of runs))
  order_bytes =
      rows_order a runs (run_steps a plan (legal_run_lem a plan legal).0) ∙ rows_sequence a (job_total a) (marks_of runs)

  module _ {s : State} {r : ℕ} (kept : PlanKept a plan s r (sequence (job_total a) (marks_of runs))) where
    order_runs : run a (initial a) (order_of a runs) ≡ some s
    order_runs = ap (run a (initial a)) order_bytes ∙ kept.ran

    -- it is complete
    order_complete : Complete a (order_of a runs) s
    order_complete = record {
      allowed = order_runs;
      finished = taken_ended ok plan legal kept;
      short = omega (arith, order_short ok (order_of a runs) order_runs, jobs_few ok.is_timed);
    }

    -- and ends as the plan does
    order_ends : plans.plan_end a runs ≡ orders.order_end s
    unfolding plans.plan_end orders.order_end
    order_ends = λ i. record { store = taken_store ok plan legal kept i; failed = taken_failed ok plan legal kept i }

    -- its plan is the plan
    order_plan : plan_of a (order_of a runs) ≡ plan
    order_plan =
        let bytes : List ℕ = done_bytes a (sequence (job_total a) (marks_of runs)) in
        complete_traced ok order_complete
        ∙ ap (λ (order : List ℕ). written a (trace_of a order).guesses (trace_of a order).marks) order_bytes
        ∙ ap (λ (guesses : List Store). written a guesses (trace_of a bytes).marks) (taken_guesses ok plan legal kept)
        ∙ ap (written a (guesses_of a plan)) (taken_marks ok plan legal kept)
        ∙ sym (legal_back ok plan legal).is_written

  -- The order of a legal plan is complete, ends as the plan does, and is that plan again.
  pub planned_order_lem : (s : State) × Complete a (order_of a runs) s × (plans.plan_end a runs ≡ orders.order_end s)
      × (plan_of a (order_of a runs) ≡ plan)
  planned_order_lem =
      let taken = plan_taken ok plan legal in
      let kept = taken.2 in
      (taken.0, order_complete kept, order_ends kept, order_plan kept)
