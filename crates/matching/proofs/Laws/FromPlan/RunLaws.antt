-- The run of a plan whose bytes pass 40 to 42: every job has steps, whose rounds are those of the plan and do not
-- fall. So the ends of a legal plan's jobs fill the rounds, one each.
-- Assumes nothing.
use Rattle.std.specs.Prelude.{◌≡◌, ◌&&◌, length, get_or}
use Rattle.std.proofs.Math.Path.{refl, sym, ap, subst}
use Rattle.std.proofs.Common.{◌∙◌, arith}
use Prim.Native.Nat.{ℕ, zero, suc, ◌+◌, ◌*◌, ◌≤◌, ◌<◌}
use Rattle.std.proofs.Math.Bool.{Bool, true, false}
use mathlib.Core.List.{List, [], ◌∷◌, map}
use Rattle.std.proofs.Math.ListN.{length-set}
use Rattle.std.proofs.Math.Dec.{leb, ltb, eqb}
use borrow.Author.Tests.{ltb-true, leb-true}
use Rattle.taskfile.specs.Chains.{most_instructions}
use Rattle.notation.specs.Checked.{Checked, passed, require}
use Rattle.notation.specs.Laws.CheckedLaws.{passed_same, bind_passed, then_passed, require_passed}
use Rattle.std.specs.Prelude.{if◌then◌else◌}
use Rattle.notation.specs.Lists.{first_or, last_or}
use Rattle.notation.specs.Laws.PairLaws.{every_at}
use Rattle.notation.specs.Ordered.{Every}
use Rattle.notation.specs.Laws.QuantifierLaws.{map_length}
use Rattle.notation.specs.Laws.TestLaws.{and_both, test_holds}
use Rattle.timing.specs.declared.Job.{Job}
use Rattle.timing.specs.Accepted.{Accepted}
use Rattle.timing.specs.Code.IsAccepted.{Timed}
use Rattle.timing.proofs.Laws.JobNumberLaws.{jobs_length}
use Rattle.timing.specs.Relations.{IsJob, job_numbers}
use Rattle.machine.specs.declared.Effect.{Effect}
use Rattle.machine.specs.declared.Local.{Local}
use Rattle.machine.specs.Instructions.{fresh}
use Rattle.plan.specs.declared.Round.{Round}
use Rattle.plan.specs.Legality.{steps_of, rounds_of, start, end}
use Rattle.plan.specs.Plans.{Legal}
use Rattle.plan.specs.Runs.{Plan, Step, RunState, JobRun, JobRuns, job_total, first_round, step_bytes_for, step_bytes}
use Rattle.plan.specs.Runs.{step_effect, step_made, running_after, run_job, run_jobs, run_start, run_plan}
use Rattle.notation.specs.Laws.CountLaws.{Distinct, Bounded, count_below, count_below_is, every_value}
use Rattle.matching.proofs.Laws.History.Histories.{job}
use Rattle.matching.proofs.Laws.FromPlan.LegalLaws.{round_of, Rising, legal_run_lem, ends_tell}
use Rattle.matching.proofs.Laws.History.PlanReading.{guesses_of}
use Rattle.matching.proofs.Laws.History.RoundLaws.{guesses_total}

-- ---- rounds that do not fall

-- each round is below k and at least the one before it, and the first at least p
abbrev pub Climbs : ℕ → Round → List Round → Type 0
Climbs k p [] = Unit {0}
Climbs k p (r ∷ rs) = (p.0 ≤ r.0) × (r.0 < k) × Climbs k r rs

-- so the last is at least p
climb_last : (k : ℕ) (p : Round) (rs : List Round) → Climbs k p rs → p.0 ≤ (last_or p rs).0
unfolding last_or
climb_last k p [] h = omega arith
climb_last k p (r ∷ rs) h = omega (arith, h.0, climb_last k r rs h.2)

-- and each lies between p and the last, below k
climb_at : (k : ℕ) (p : Round) (rs : List Round) → Climbs k p rs → (i : ℕ) → i < length rs
    → (p.0 ≤ (get_or rs i first_round).0) × ((get_or rs i first_round).0 ≤ (last_or p rs).0) × ((get_or rs i first_round).0 < k)
unfolding last_or
climb_at k p [] h i lt = absurd (omega arith)
climb_at k p (r ∷ rs) h zero lt = (h.0, climb_last k r rs h.2, h.1)
climb_at k p (r ∷ rs) h (suc i) lt =
    let found = climb_at k r rs h.2 i (omega arith) in
    (omega (arith, h.0, found.0), found.1, found.2)

-- from the first on
climb_first : (k : ℕ) (p : Round) (rs : List Round) → Climbs k p rs → (i : ℕ) → i < length rs
    → ((first_or first_round rs).0 ≤ (get_or rs i first_round).0) × ((get_or rs i first_round).0 ≤ (last_or first_round rs).0)
unfolding first_or last_or
climb_first k p [] h i lt = absurd (omega arith)
climb_first k p (r ∷ rs) h i lt =
    let found = climb_at k r (r ∷ rs) (omega arith, h.1, h.2) i lt in
    (found.0, found.1)

-- the last of some is below k
climb_below : (k : ℕ) (p : Round) (rs : List Round) → Climbs k p rs → 0 < length rs → (last_or first_round rs).0 < k
unfolding last_or
climb_below k p [] h lt = absurd (omega arith)
climb_below k p (r ∷ []) h lt = h.1
climb_below k p (r ∷ q ∷ rs) h lt = climb_below k r (q ∷ rs) h.2 (omega arith)

-- ---- one step

unfoldable rounds : List Step → List Round
rounds steps = map (λ step. step.round) steps

module _ (a : Accepted) (plan : Plan) where
  -- by number 42 a step's round is one of the plan's, and not below the previous step's
  step_round : (x : Job) (local : Local) (previous : Round) (offset : ℕ) {u : Unit {0}}
      → step_bytes a plan x local previous offset ≡ passed u
      → (previous.0 ≤ get_or plan offset 0) × (get_or plan offset 0 < job_total a)
  unfolding step_bytes step_bytes_for
  step_round x local previous offset e =
      let first = then_passed (require (ltb (offset + 1) (length plan)) 40 (length plan)) _ e in
      let test : Bool = ltb (get_or plan offset 0) (job_total a) && leb previous.0 (get_or plan offset 0) in
      let second = then_passed (require test 42 offset) _ first.2 in
      let parts = and_both (ltb (get_or plan offset 0) (job_total a)) _ (test_holds _ (require_passed test 42 offset second.1)) in
      (leb-true _ _ parts.1, ltb-true _ _ parts.0)

  -- ---- one job's steps

  -- the steps that a job makes from `previous` on, over so many stores
  record Ran (previous : Round) (stores : ℕ) (run : JobRun) : Type 0 where
    climbs : Climbs (job_total a) previous (rounds run.steps)
    kept : length run.running.stores ≡ stores

  -- a job's next step, before the steps that follow it
  abbrev next_step : Job → Local → RunState → Step
  next_step x local running = step_made a plan x running (step_effect a plan x local running)

  abbrev step_before : Step → JobRun → JobRun
  step_before step rest = record { steps = step ∷ rest.steps; running = rest.running }

  -- what follows it: nothing after an End
  abbrev onward : Job → ℕ → Local → RunState → Checked ℕ JobRun
  onward x left local running =
      let effect = step_effect a plan x local running in
      let next = running_after plan x running effect in
      if effect.ended
      then passed (record { steps = []; running = next })
      else run_job a plan x left effect.local (next_step x local running).round next

  -- a step that passed, and what followed it
  record Stepped (x : Job) (left : ℕ) (local : Local) (previous : Round) (running : RunState)
      (run : JobRun) : Type 0 where
    above : previous.0 ≤ (next_step x local running).round.0
    below : (next_step x local running).round.0 < job_total a
    rest : JobRun
    follows : onward x left local running ≡ passed rest
    made : run ≡ step_before (next_step x local running) rest

  run_step : (x : Job) (left : ℕ) (local : Local) (previous : Round) (running : RunState) {run : JobRun}
      → run_job a plan x (suc left) local previous running ≡ passed run → Stepped x left local previous running run
  unfolding run_job step_made
  run_step x left local previous running e =
      let first = then_passed (step_bytes a plan x local previous running.offset) _ e in
      let second = bind_passed (onward x left local running) (λ rest. passed (step_before (next_step x local running) rest)) first.2 in
      let round = step_round x local previous running.offset first.1 in
      record {
        above = round.0;
        below = round.1;
        rest = second.0;
        follows = second.1;
        made = sym (passed_same {P = ℕ} second.2);
      }

  -- a step changes one store
  next_stores : (x : Job) (running : RunState) (effect : Effect)
      → length (running_after plan x running effect).stores ≡ length running.stores
  unfolding running_after
  next_stores x running effect = length-set running.stores (get_or plan running.offset 0) effect.store

  -- nothing more after an End, and the job's further steps otherwise
  onward_ran : (ended : Bool) (previous : Round) (next : RunState) (further : Checked ℕ JobRun) {rest : JobRun}
      → (further ≡ passed rest → Ran previous (length next.stores) rest)
      → (if ended then passed (record { steps = []; running = next }) else further) ≡ passed rest
      → Ran previous (length next.stores) rest
  unfolding rounds
  onward_ran true previous next further later e =
      subst (Ran previous (length next.stores)) (passed_same {P = ℕ} e) (record { climbs = tt; kept = refl })
  onward_ran false previous next further later e = later e

  -- so a job's rounds climb, and the number of stores stays
  runs_job : (x : Job) (left : ℕ) (local : Local) (previous : Round) (running : RunState) {run : JobRun}
      → run_job a plan x left local previous running ≡ passed run → Ran previous (length running.stores) run
  unfolding run_job rounds
  runs_job x zero local previous running e =
      subst (Ran previous (length running.stores)) (passed_same {P = ℕ} e) (record { climbs = tt; kept = refl })
  runs_job x (suc left) local previous running e =
      let effect = step_effect a plan x local running in
      let round = (next_step x local running).round in
      let next = running_after plan x running effect in
      let further = run_job a plan x left effect.local round next in
      let found = run_step x left local previous running e in
      let ran = onward_ran effect.ended round next further (λ e. runs_job x left effect.local round next e) found.follows in
      subst (Ran previous (length running.stores)) (sym found.made)
      (record { climbs = (found.above, found.below, ran.climbs); kept = ran.kept ∙ next_stores x running effect })

  -- and it has a step
  runs_some : (x : Job) (left : ℕ) (local : Local) (previous : Round) (running : RunState) {run : JobRun}
      → run_job a plan x (suc left) local previous running ≡ passed run → 0 < length run.steps
  runs_some x left local previous running e =
      let count = ap (λ (run : JobRun). length run.steps) (run_step x left local previous running e).made in
      omega (arith, count)

  -- ---- the jobs

  -- a job's steps in the run: some, whose rounds climb
  abbrev Whole : List Step → Type 0
  Whole steps = (0 < length steps) × Climbs (job_total a) first_round (rounds steps)

  record AllRan (jobs stores : ℕ) (runs : JobRuns) : Type 0 where
    counted : length runs.steps ≡ jobs
    kept : length runs.running.stores ≡ stores
    whole : Every Whole runs.steps

  runs_jobs : (xs : List Job) (running : RunState) {runs : JobRuns} → run_jobs a plan xs running ≡ passed runs
      → AllRan (length xs) (length running.stores) runs
  unfolding run_jobs
  runs_jobs [] running e =
      subst (AllRan 0 (length running.stores)) (passed_same {P = ℕ} e) (record { counted = refl; kept = refl; whole = tt })
  runs_jobs (x ∷ xs) running e =
      let first = bind_passed (run_job a plan x most_instructions fresh first_round running) _ e in
      let one = first.0 in
      let second = bind_passed (run_jobs a plan xs one.running) _ first.2 in
      let ran = runs_job x most_instructions fresh first_round running first.1 in
      let others = runs_jobs xs one.running second.1 in
      subst (AllRan (suc (length xs)) (length running.stores)) (passed_same {P = ℕ} second.2)
      (record {
        counted = ap suc others.counted;
        kept = others.kept ∙ ran.kept;
        whole = ((runs_some x 15 fresh first_round running first.1, ran.climbs), others.whole);
      })

  -- ---- the plan

  start_stores : length (run_start a plan).stores ≡ job_total a
  unfolding run_start guesses_of
  start_stores = guesses_total a plan

  module _ {runs : JobRuns} (ran : run_plan a plan ≡ passed runs) where
    plan_ran : AllRan (job_total a) (job_total a) runs
    unfolding run_plan job_total
    plan_ran =
        let first = then_passed (require (ltb 0 (length plan) && eqb (get_or plan 0 0) (job_total a)) 40 0) _ ran in
        let second = then_passed (require (leb (1 + 8 * job_total a) (length plan)) 40 (length plan)) _ first.2 in
        let third = bind_passed (run_jobs a plan (job_numbers a) (run_start a plan)) _ second.2 in
        let found = third.0 in
        let last = then_passed (require (eqb found.running.offset (length plan)) 40 found.running.offset) _ third.2 in
        let all = runs_jobs (job_numbers a) (run_start a plan) third.1 in
        subst (AllRan (job_total a) (job_total a)) (passed_same {P = ℕ} last.2)
        (record { counted = all.counted ∙ jobs_length a; kept = all.kept ∙ start_stores; whole = all.whole })

    -- a list of steps for each job, and a store for each round
    pub run_steps : length runs.steps ≡ job_total a
    run_steps = plan_ran.counted

    pub run_stores : length runs.running.stores ≡ job_total a
    run_stores = plan_ran.kept

    -- a job's steps
    job_whole : (x : Job) → IsJob a x → Whole (steps_of runs x)
    unfolding steps_of job_total
    job_whole x isJob = every_at Whole runs.steps x.0 [] plan_ran.whole (omega (arith, run_steps))

    job_some : (x : Job) → IsJob a x → 0 < length (rounds_of runs x)
    unfolding rounds_of
    job_some x isJob = omega (arith, map_length (λ (step : Step). step.round) (steps_of runs x), (job_whole x isJob).0)

    -- whose rounds do not fall
    pub job_climbs : (x : Job) → IsJob a x → Climbs (job_total a) first_round (rounds_of runs x)
    unfolding rounds_of rounds
    job_climbs x isJob = (job_whole x isJob).1

    -- every job has a step, and its rounds lie between its start and its end
    pub run_rising : Rising a runs
    unfolding start end
    run_rising =
        record {
          has_step = job_some;
          between = λ x isJob. climb_first (job_total a) first_round (rounds_of runs x) (job_climbs x isJob);
        }

    -- its rounds are the plan's
    pub run_below : (x : Job) → IsJob a x → (k : ℕ) → k < length (rounds_of runs x) → (round_of runs x k).0 < job_total a
    run_below x isJob k lt = (climb_at (job_total a) first_round (rounds_of runs x) (job_climbs x isJob) k lt).2

    pub end_below : (x : Job) → IsJob a x → (end runs x).0 < job_total a
    unfolding end
    end_below x isJob = climb_below (job_total a) first_round (rounds_of runs x) (job_climbs x isJob) (job_some x isJob)

-- ---- a legal plan's ends

-- the round in which job n ends
abbrev pub end_round : JobRuns → ℕ → ℕ
end_round runs n = (end runs (job n)).0

module _ (a : Accepted) (plan : Plan) {runs : JobRuns} (legal : Legal a plan runs) where
  pub legal_rising : Rising a runs
  legal_rising = run_rising a plan (legal_run_lem a plan legal).0

  -- no job ends after the last round
  pub ends_bounded : Bounded (end_round runs) (job_total a) (job_total a)
  unfolding job_total job
  ends_bounded x is_x = end_below a plan (legal_run_lem a plan legal).0 (job x) is_x

  module _ (timed : Timed a) where
    -- no two jobs end in one round
    pub ends_distinct : Distinct (end_round runs) (job_total a)
    unfolding job_total job
    ends_distinct x y is_x isY e = ends_tell a plan timed legal legal_rising (job x) (job y) is_x isY e

    -- so r jobs end in the rounds below r
    pub ends_below : (r : ℕ) → r ≤ job_total a → count_below (end_round runs) r (job_total a) ≡ r
    ends_below r most = count_below_is (end_round runs) (job_total a) ends_distinct ends_bounded r most

    -- and in each round a job ends
    pub round_ends : (r : ℕ) → r < job_total a → (x : ℕ) × (x < job_total a) × (end_round runs x ≡ r)
    round_ends r lt = every_value (end_round runs) (job_total a) ends_distinct ends_bounded r lt
