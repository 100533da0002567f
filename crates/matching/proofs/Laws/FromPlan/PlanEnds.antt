-- All steps of a legal plan, read by rows, as an order: every job has ended after them, the order's state ends as the
-- plan does, and the order's trace has the plan's guesses and marks.
-- Assumes nothing.
use Rattle.std.specs.Prelude.{◌≡◌, refl, ℕ, ◌<◌, true, List, [], ◌∷◌, ◌++◌, replicate}
use Rattle.std.proofs.Common.{sym, ap, subst, ◌∙◌, arith, append_assoc, append-nil, ext_get_or}
use Rattle.notation.specs.Lists.{last_or}
use Rattle.timing.specs.Accepted.{Accepted}
use Rattle.timing.specs.Code.IsAccepted.{IsAccepted}
use Rattle.timing.proofs.Laws.JobNumberLaws.{jobs_all}
use Rattle.machine.specs.Instructions.{Store}
use Rattle.order.specs.States.{State, initial, has_ended, all_ended}
use Rattle.plan.specs.Plans.{Legal}
use Rattle.plan.specs.Runs.{Plan, JobRuns, job_total}
use Rattle.matching.proofs.Laws.FromPlan.Cuts.{Placed, sequence, gathered}
use Rattle.matching.proofs.Laws.FromOrder.EndedLaws.{ended_all}
use Rattle.matching.proofs.Laws.History.Histories.{Marks, job}
use Rattle.matching.proofs.Laws.FromPlan.PlanColumns.{legal_back, legal_climbs, legal_stores, legal_failed, legal_ends}
use Rattle.matching.proofs.Laws.FromPlan.PlanKept.{done_marks, done_bytes, PlanKept, plan_starts}
use Rattle.matching.proofs.Laws.History.PlanReading.{marks_of, guesses_of}
use Rattle.matching.proofs.Laws.FromPlan.PlanSteps.{plan_steps}
use Rattle.matching.proofs.Laws.FromPlan.SequenceLaws.{sequence_gathered}
use Rattle.matching.proofs.Laws.FromOrder.TraceEnds.{last_store, failed_flags}
use Rattle.matching.proofs.Laws.FromOrder.Traces.{Traced}
use Rattle.order.specs.OrderSteps.{ended_count}
use Rattle.matching.proofs.Laws.FromOrder.TraceStepLaws.{guesses_whole}
use Rattle.matching.proofs.Laws.FromOrder.TraceSteps.{trace_of}

-- ---- all steps

module _ {a : Accepted} (ok : IsAccepted a) (plan : Plan) {runs : JobRuns} (legal : Legal a plan runs) where
  -- step by step to the end of the sequence
  steps_on : (rest done : List Placed) (s : State) (r : ℕ) → PlanKept a plan s r done
      → sequence (job_total a) (marks_of runs) ≡ done ++ rest
      → (after : State) × (q : ℕ) × PlanKept a plan after q (sequence (job_total a) (marks_of runs))
  steps_on [] done s r kept split = (s, r, subst (PlanKept a plan s r) (sym (split ∙ append-nil done)) kept)
  steps_on (p ∷ rest) done s r kept split =
      let one = plan_steps ok plan legal kept p rest split in
      steps_on rest (done ++ (p ∷ [])) one.0 one.1 one.2 (split ∙ sym (append_assoc done (p ∷ []) rest))

  pub plan_taken : (s : State) × (r : ℕ) × PlanKept a plan s r (sequence (job_total a) (marks_of runs))
  plan_taken = steps_on (sequence (job_total a) (marks_of runs)) [] (initial a) 0 (plan_starts ok plan legal) refl

  -- ---- after the last

  module _ {s : State} {r : ℕ} (kept : PlanKept a plan s r (sequence (job_total a) (marks_of runs))) where
    abbrev h : Marks
    h = marks_of runs

    abbrev S : List Store
    S = guesses_of a plan

    marks_all : done_marks a (sequence (job_total a) h) ≡ h
    marks_all =
        ap (λ (n : ℕ). gathered (replicate n []) (sequence (job_total a) h)) (sym (legal_back ok plan legal).full)
        ∙ sequence_gathered (job_total a) h (legal_climbs ok plan legal)

    trace_all : Traced a s r S h (done_bytes a (sequence (job_total a) h))
    trace_all = subst (λ (g : Marks). Traced a s r S g (done_bytes a (sequence (job_total a) h))) marks_all kept.trace

    -- every job has ended, each in a round of its own
    each_ended : (y : ℕ) → y < job_total a → has_ended s (job y) ≡ true
    each_ended y lt = sym (trace_all.endings y lt) ∙ legal_ends ok plan legal y lt

    pub taken_ended : all_ended a s ≡ true
    unfolding all_ended job job_total
    taken_ended = jobs_all a (has_ended s) (λ y isY. each_ended y.0 isY)

    pub taken_rounds : ended_count a s ≡ job_total a
    taken_rounds = ended_all a s taken_ended

    last_round_lem : r ≡ job_total a
    last_round_lem = sym trace_all.ends ∙ taken_rounds

    -- ---- the end

    -- the last round's store is the state's
    pub taken_store : last_or a.table.store runs.running.stores ≡ s.store
    taken_store =
        ap (last_or a.table.store) (legal_stores ok plan legal) ∙ last_store ok trace_all (done_bytes a (sequence (job_total a) h)) kept.ran last_round_lem

    -- the failed jobs are those of the failed columns
    pub taken_failed : runs.running.failed ≡ s.failed
    taken_failed = legal_failed ok plan legal ∙ failed_flags ok trace_all kept.beyond

    -- ---- the trace

    pub taken_marks : (trace_of a (done_bytes a (sequence (job_total a) h))).marks ≡ h
    taken_marks = kept.marks ∙ marks_all

    pub taken_guesses : (trace_of a (done_bytes a (sequence (job_total a) h))).guesses ≡ S
    taken_guesses =
        let order : List ℕ = done_bytes a (sequence (job_total a) h) in
        ext_get_or [] (trace_of a order).guesses S (guesses_whole a order ∙ sym (legal_back ok plan legal).total)
        (λ q lt. kept.guesses q (omega (arith, guesses_whole a order, last_round_lem)) (omega (arith, guesses_whole a order)))
