-- In the plan of a complete order each step has its value from the order and, as its round, the number of Ends before
-- it. For the order's steps are those of its first bytes, then those of the others, and their rounds are the numbers of
-- jobs that have ended.
-- Assumes nothing.
use Rattle.plan.specs.Runs as runs
use Rattle.std.specs.Prelude.{◌≡◌, refl, ℕ}
use Rattle.std.proofs.Math.Path.{sym, ap}
use Rattle.std.proofs.Common.{subst, ◌∙◌, arith, eq-eqb}
use Rattle.std.proofs.Math.Bool.{Bool}
use mathlib.Core.List.{List, [], ◌∷◌, ◌++◌, map, map-append}
use Rattle.std.proofs.Math.Option.{some, bind}
use Rattle.std.proofs.Math.ListN.{length, get_or}
use Rattle.std.proofs.Math.Dec.{eqb}
use Rattle.notation.specs.Laws.QuantifierLaws.{map_length, map_at}
use Rattle.timing.specs.declared.Job.{Job}
use Rattle.timing.specs.Accepted.{Accepted}
use Rattle.timing.specs.Code.IsAccepted.{IsAccepted}
use Rattle.timing.specs.Relations.{IsJob}
use Rattle.order.specs.OrderBytes.{task_of_byte}
use Rattle.order.specs.Orders.{run, Complete}
use Rattle.order.specs.OrderSteps.{OrderStep, steps_from, order_steps, steps_of_job, steps_made}
use Rattle.order.specs.States.{State, initial}
use Rattle.order.proofs.Laws.StepLaws.{good_turn, AllowedStep, step_says, initial_invariant}
use Rattle.plan.specs.Legality.{steps_of}
use Rattle.plan.specs.Runs.{job_total}
use Rattle.matching.specs.Conversions.{plan_of}
use Rattle.matching.proofs.Laws.History.Histories.{Mark, Marks}
use Rattle.notation.specs.Laws.ElementLaws.{only_in, only_append, CutAt, map_cut, only_mapped}
use Rattle.matching.proofs.Laws.FromOrder.OrderPlanned.{runs_of, order_planned}
use Rattle.matching.proofs.Laws.FromOrder.OrderStepLaws.{step_made, steps_first, steps_cut, order_counted}
use Rattle.matching.specs.PlannedSteps.{StepPlanned, StepsPlanned}
use Rattle.matching.proofs.Laws.History.PlanReading.{guessed, mark_of, marks_of}
use Rattle.matching.proofs.Laws.History.PlanReadingLaws.{marks_back}
use Rattle.matching.proofs.Laws.FromOrder.TraceMore.{trace_run_first, run_invariant}
use Rattle.matching.proofs.Laws.FromOrder.TraceStepLaws.{marks_whole, marks_noted}
use Rattle.matching.proofs.Laws.FromOrder.TraceSteps.{NotedStep, noted, of_job, counted_step, RoundsCounted, trace_of}

-- ---- runs

-- an order that is cut: its first bytes lead to a state from which the others run on
run_cut : (a : Accepted) (earlier bytes : List ℕ) (s : State) {end : State} → run a s (earlier ++ bytes) ≡ some end
    → (mid : State) × (run a s earlier ≡ some mid) × (run a mid bytes ≡ some end)
unfolding run bind
run_cut a [] bytes s e = (s, refl, e)
run_cut a (b ∷ earlier) bytes s e =
    let first = trace_run_first a s b (earlier ++ bytes) e in
    let rest = run_cut a earlier bytes first.0 first.2 in
    (rest.0, rw first.1 rest.1, rest.2)

-- ---- steps with their rounds

-- an order's steps, each with the number of jobs that have ended before it
abbrev noted_in : Accepted → List ℕ → List NotedStep
noted_in a order = map (counted_step a) (order_steps a order)

-- each job has as many as the order has of it
noted_made : (a : Accepted) (order : List ℕ) (x : Job) → length (of_job x.0 (noted_in a order)) ≡ steps_made a order x
unfolding steps_made steps_of_job counted_step
noted_made a order x = sym (only_mapped (counted_step a) (λ step. eqb step.job.0 x.0) (order_steps a order))

-- ---- the plan's run

module _ (a : Accepted) (order : List ℕ) (counts : RoundsCounted a order) where
  marks_run : map (map mark_of) (runs_of a order).steps ≡ (trace_of a order).marks
  unfolding runs_of marks_of
  marks_run = marks_back a (trace_of a order).marks 0 (guessed a (trace_of a order).guesses)

  -- the plan's steps of a job are the order's
  steps_noted : (x : Job) → IsJob a x
      → map mark_of (steps_of (runs_of a order) x) ≡ map noted (of_job x.0 (noted_in a order))
  unfolding steps_of job_total
  steps_noted x isJob =
      let all : List (List runs.Step) = (runs_of a order).steps in
      let long : length all ≡ job_total a =
      sym (map_length (map mark_of) all) ∙ ap (λ (l : Marks). length l) marks_run ∙ marks_whole a order in
      sym (map_at (map mark_of) all x.0 [] [] (omega arith))
      ∙ ap (λ (l : Marks). get_or l x.0 []) marks_run
      ∙ marks_noted a order x.0 isJob
      ∙ ap (λ (l : List NotedStep). map noted (of_job x.0 l)) counts

  -- so each job has as many steps in the plan as in the order
  steps_same : (x : Job) → IsJob a x → length (steps_of (runs_of a order) x) ≡ steps_made a order x
  steps_same x isJob =
      sym (map_length mark_of (steps_of (runs_of a order) x))
      ∙ ap (λ (l : List Mark). length l) (steps_noted x isJob)
      ∙ map_length noted (of_job x.0 (noted_in a order))
      ∙ noted_made a order x

-- ---- each step

-- a byte's step: the bytes before it lead to a state, and it is a step from there
module _ {a : Accepted} (ok : IsAccepted a) (earlier later : List ℕ) {byte : ℕ} {before after : State}
    (reached : run a (initial a) earlier ≡ some before) (made : AllowedStep a before byte after)
    (counts : RoundsCounted a (earlier ++ (byte ∷ later))) where
  abbrev order : List ℕ
  order = earlier ++ (byte ∷ later)

  abbrev x : Job
  x = made.turn.frame.job

  turn_job : IsJob a x
  turn_job =
      let inv = run_invariant ok earlier (initial_invariant a) reached in
      (good_turn ok inv (task_of_byte byte) made.due).0.running.job

  -- the order's steps: those before it, its own, and the others
  abbrev first : List NotedStep
  first = noted_in a earlier

  abbrev own : NotedStep
  own = counted_step a (step_made made)

  abbrev others : List NotedStep
  others = map (counted_step a) (steps_from a after later)

  order_parts : noted_in a order ≡ first ++ (own ∷ others)
  unfolding order_steps
  order_parts =
      ap (map (counted_step a))
      (steps_cut a earlier (byte ∷ later) (initial a) reached
      ∙ ap (λ (l : List OrderStep). steps_from a (initial a) earlier ++ l) (steps_first later made))
      ∙ map-append (counted_step a) (steps_from a (initial a) earlier) (step_made made ∷ steps_from a after later)

  -- and of them those of its job
  job_parts : of_job x.0 (noted_in a order) ≡ of_job x.0 first ++ (own ∷ of_job x.0 others)
  unfolding counted_step
  job_parts =
      let test : NotedStep → Bool = λ step. eqb step.job.0 x.0 in
      ap (of_job x.0) order_parts
      ∙ only_append test first (own ∷ others)
      ∙ ap (λ (l : List NotedStep). of_job x.0 first ++ l) (only_in test own others (eq-eqb x.0 x.0 refl))

  -- so they are in the plan
  step_at_lem : CutAt mark_of (steps_of (runs_of a order) x) (map noted (of_job x.0 first)) (noted own)
  step_at_lem =
      map_cut mark_of (steps_of (runs_of a order) x) (map noted (of_job x.0 first)) (map noted (of_job x.0 others))
      (noted own)
      (steps_noted a order counts x turn_job
      ∙ ap (map noted) job_parts
      ∙ map-append noted (of_job x.0 first) (own ∷ of_job x.0 others))

  step_planned : StepPlanned a (runs_of a order) earlier byte
  unfolding noted mark_of counted_step
  step_planned =
      record {
        before = before;
        reached = reached;
        turn = made.turn;
        due = made.due;
        made = step_at_lem.before;
        step = step_at_lem.here;
        left = step_at_lem.after;
        cut = step_at_lem.parts;
        as_many = step_at_lem.as_many ∙ map_length noted (of_job x.0 first) ∙ noted_made a earlier x;
        value = ap (λ (m : Mark). m.value) step_at_lem.same;
        round = ap (λ (m : Mark). m.round) step_at_lem.same;
      }

-- the plan of a complete order has the order's steps
pub steps_planned : {a : Accepted} → IsAccepted a → {order : List ℕ} {s : State} → Complete a order s
    → StepsPlanned a order (plan_of a order)
steps_planned {a} ok {order} {s} complete =
    record {
      runs = runs_of a order;
      legal = (order_planned ok complete).legal;
      each_byte = λ earlier byte later cut.
          let ran = ap (run a (initial a)) (sym cut) ∙ complete.allowed in
          let halves = run_cut a earlier (byte ∷ later) (initial a) ran in
          let first = trace_run_first a halves.0 byte later halves.2 in
          subst (λ (bytes : List ℕ). StepPlanned a (runs_of a bytes) earlier byte) (sym cut)
          (step_planned ok earlier later halves.1 (step_says a halves.0 byte first.1) (order_counted ok _ ran));
      no_others = steps_same a order (order_counted ok order complete.allowed);
    }
