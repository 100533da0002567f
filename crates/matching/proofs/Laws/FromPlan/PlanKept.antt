-- The steps of a legal plan, read by rows, as an order so far: what holds of the order's state, of its history and of
-- its trace. It holds before the first step, and where it holds the plan's next step is one that the order may take.
-- Assumes nothing.
use Rattle.std.specs.Prelude.{◌≡◌, true, false, take, replicate}
use Rattle.std.proofs.Math.Path.{refl, sym, ap}
use Rattle.std.proofs.Common.{subst, ◌∙◌, inl, inr}
use Prim.Native.Nat.{ℕ, ◌%◌, ◌≤◌, ◌<◌}
use native.Mathlib.Omega.{arith}
use Rattle.std.proofs.Math.Bool.{Bool}
use mathlib.Core.List.{List, [], ◌∷◌, ◌++◌, map}
use Rattle.std.proofs.Math.Option.{some}
use Rattle.std.proofs.Math.ListN.{length, get_or}
use Rattle.taskfile.specs.Judgement.{instruction_of}
use Rattle.notation.specs.Lists.{member, last_or}
use Rattle.notation.specs.Laws.PairLaws.{every_at}
use Rattle.taskfile.specs.Tables.{ceilings_of}
use Rattle.notation.specs.Laws.TestLaws.{test_decided, not_both}
use Rattle.timing.specs.declared.Job.{Job}
use Rattle.timing.specs.Accepted.{Accepted}
use Rattle.timing.specs.Code.IsAccepted.{IsAccepted}
use Rattle.timing.specs.Relations.{base, job_at}
use Rattle.machine.specs.declared.Local.{Local}
use Rattle.machine.specs.Ends.{no_store, no_flags}
use Rattle.machine.specs.Held.{priority}
use Rattle.machine.specs.Instructions.{Store, values}
use Rattle.order.specs.OrderBytes.{task_of_byte, value_of_byte}
use Rattle.order.specs.declared.Frame.{Frame}
use Rattle.order.specs.Code.Invariant.{IsRunning, has_begun, Invariant}
use Rattle.order.specs.Orders.{Turn, turn_of, next_of, performed, step, run}
use Rattle.order.specs.States.{State, initial, has_ended, present_priority}
use Rattle.order.proofs.Laws.StepLaws.{no_flag, initial_invariant, good_turn, step_says, offered_steps}
use Rattle.plan.specs.Legality.{steps_of, due_store}
use Rattle.plan.specs.Plans.{Legal}
use Rattle.plan.specs.Runs.{Plan, Step, JobRuns, job_total}
use Rattle.matching.proofs.Laws.FromPlan.CutLaws.{sequence_cut}
use Rattle.matching.proofs.Laws.FromPlan.CutRounds.{round_counted}
use Rattle.matching.proofs.Laws.FromPlan.CutRuns.{cut_ended, cut_open, cut_offered, steps_taken}
use Rattle.matching.proofs.Laws.FromPlan.Cuts.{Placed, Cut, sequence, placed_byte, gathered}
use Rattle.matching.proofs.Laws.History.Histories.{Mark, Marks, job, round, unbegun, columns}
use Rattle.notation.specs.Laws.ElementLaws.{none_or_some}
use Rattle.matching.proofs.Laws.FromOrder.MovedLaws.{agree_turn}
use Rattle.matching.proofs.Laws.FromPlan.OfferedLaws.{job_offered, byte_task, byte_value}
use Rattle.matching.proofs.Laws.TwoJobs.PairedLaws.{none_begun}
use Rattle.matching.proofs.Laws.FromPlan.PlanColumns.{legal_back, legal_climbs, legal_steps, guess_due, column_notes}
use Rattle.matching.proofs.Laws.History.PlanReading.{marks_of, guesses_of}
use Rattle.matching.proofs.Laws.FromPlan.PlanTurn.{Stands, NextTurn, plan_turn}
use Rattle.matching.proofs.Laws.FromOrder.TraceMore.{some_same}
use Rattle.matching.proofs.Laws.FromOrder.Traces.{Traced}
use Rattle.order.specs.OrderSteps.{ended_count}
use Rattle.matching.proofs.Laws.FromOrder.TraceLaws.{traced_initial}
use Rattle.matching.proofs.Laws.FromOrder.TraceStepLaws.{first_guess_lem}
use Rattle.matching.proofs.Laws.FromOrder.TraceSteps.{trace_from, first_guess, start_trace, trace_of}
use Rattle.matching.proofs.Laws.FromOrder.TurnTraceLaws.{turn_kind}

-- the history and the order bytes of the steps done
abbrev pub done_marks : Accepted → List Placed → Marks
done_marks a done = gathered (replicate (job_total a) []) done

abbrev pub done_bytes : Accepted → List Placed → List ℕ
done_bytes a done = map (placed_byte a) done

-- the steps done are an order so far, in round r, whose trace has their marks and the plan's guesses up to round r
pub record PlanKept (a : Accepted) (plan : Plan) (s : State) (r : ℕ) (done : List Placed) : Type 0 where
  pub ran : run a (initial a) (done_bytes a done) ≡ some s
  pub inv : Invariant a s
  pub trace : Traced a s r (guesses_of a plan) (done_marks a done) (done_bytes a done)
  -- a job that has begun has a step, and only jobs have failed
  pub begun : (y : ℕ) → y < job_total a → has_begun s (job y) ≡ true → get_or (done_marks a done) y [] ≡ [] → ⊥
  pub beyond : (y : ℕ) → job_total a ≤ y → get_or s.failed y false ≡ false
  pub marks : (trace_of a (done_bytes a done)).marks ≡ done_marks a done
  pub guesses : (q : ℕ) → q ≤ r → q < job_total a
      → get_or (trace_of a (done_bytes a done)).guesses q [] ≡ get_or (guesses_of a plan) q []

-- ---- before the first step

module _ {a : Accepted} (ok : IsAccepted a) (plan : Plan) {runs : JobRuns} (legal : Legal a plan runs) where
  -- guess 0 is the initial store
  guess_first_lem : (q : ℕ) → q ≡ 0 → q < job_total a → (d : Store) → get_or (guesses_of a plan) q d ≡ a.table.store
  unfolding due_store
  guess_first_lem q e lt d = guess_due ok plan legal q lt d ∙ ap (λ (k : ℕ). due_store a runs (round k)) e

  pub plan_starts : PlanKept a plan (initial a) 0 []
  unfolding run gathered trace_of trace_from start_trace initial no_flags
  plan_starts = record {
    ran = refl;
    inv = initial_invariant a;
    trace = traced_initial ok (guesses_of a plan) (legal_back ok plan legal).total (λ lt. guess_first_lem 0 refl lt no_store);
    begun = λ y lt h none. not_both _ h (none_begun a (job y));
    beyond = λ y up. no_flag 32 y;
    marks = refl;
    guesses = λ q le lt. (let first : q ≡ 0 = omega arith in
        ap (λ (k : ℕ). get_or (first_guess a.table.store (job_total a)) k []) first
        ∙ first_guess_lem a.table.store (job_total a) [] (omega arith)
        ∙ sym (guess_first_lem q first lt []));
  }

-- ---- where the plan stands

module _ {a : Accepted} (ok : IsAccepted a) (plan : Plan) {runs : JobRuns} (legal : Legal a plan runs) where
  abbrev h : Marks
  h = marks_of runs

  abbrev S : List Store
  S = guesses_of a plan

  -- before each step the history is cut
  pub plan_cut : (done : List Placed) (p : Placed) (rest : List Placed) → sequence (job_total a) h ≡ done ++ (p ∷ rest)
      → Cut h (done_marks a done) p.number p.mark
  plan_cut done p rest split =
      subst (λ (n : ℕ). Cut h (gathered (replicate n []) done) p.number p.mark) (legal_back ok plan legal).full
      (sequence_cut (job_total a) h done p rest (legal_climbs ok plan legal) split)

  listed : (y : ℕ) → y < job_total a → y < length h
  listed y lt = omega (arith, (legal_back ok plan legal).full)

  module _ {now : Marks} {x : ℕ} {m : Mark} (cut : Cut h now x m) (s : State)
      (endings : (y : ℕ) → y < job_total a → (get_or (columns a now S).jobs y unbegun).ended ≡ has_ended s (job y)) where
    -- the jobs that have ended are those with no step left
    left_none : (y : ℕ) → y < job_total a → has_ended s (job y) ≡ true → cut.rest y ≡ []
    left_none y lt ended = elim (none_or_some (cut.rest y)) [
      | inl none ↦ none
      | inr some_left ↦
          absurd (not_both (has_ended s (job y)) ended
          (sym (endings y lt) ∙ cut_open a S (legal_back ok plan legal).whole cut y (listed y lt) some_left))
    ]

    none_left : (y : ℕ) → y < job_total a → cut.rest y ≡ [] → has_ended s (job y) ≡ true
    none_left y lt none = sym (endings y lt) ∙ cut_ended a S (legal_back ok plan legal).whole cut y (listed y lt) none

    -- so their number is the next step's round
    pub cut_round : ended_count a s ≡ m.round
    cut_round = round_counted ok plan legal cut s (λ y lt. (left_none y lt, none_left y lt))

    -- an active job's present priority is that after its steps made
    module _ (inv : Invariant a s) {r : ℕ} {bytes : List ℕ} (t : Traced a s r S now bytes) where
      stand_priority : (k : ℕ) (d : Frame) → k < length s.active
          → present_priority a (get_or s.active k d) ≡ last_or (base a (get_or s.active k d).job) (map
          (λ step. step.priority_after)
          (take (length (get_or now (get_or s.active k d).job.0 [])) (steps_of runs (get_or s.active k d).job)))
      unfolding present_priority job job_total
      stand_priority k d lt =
          let f : Frame = get_or s.active k d in
          let y : ℕ = f.job.0 in
          let isY = (every_at (IsRunning a s) s.active k d inv.running lt).job in
          let inside : y < length h = listed y isY in
          let after : List Step → ℕ = λ steps. last_or (base a f.job) (map (λ step. step.priority_after) steps) in
          ap (λ (l : Local). priority (ceilings_of a.table) (base a f.job) l.held) (sym (t.locals k d lt))
          ∙ sym (column_notes a now S y (omega (arith, cut.same)))
          ∙ ap after (steps_taken a S (legal_back ok plan legal).whole cut y inside)
          ∙ ap (λ (steps : List Step). after (take (length (get_or now y [])) steps)) (sym (legal_steps ok plan legal y))

      -- so the state stands where the history is cut
      plan_stands : ((y : ℕ) → y < job_total a → has_begun s (job y) ≡ true → get_or now y [] ≡ [] → ⊥)
          → Stands a s runs now cut.rest
      plan_stands begun = record {
        begun_some = begun;
        some_begun = λ y lt some_made. elim (test_decided (has_begun s (job y))) [
          | inl yes-begun ↦ yes-begun
          | inr not_yet ↦ absurd (some_made (t.none_yet y lt not_yet))
        ];
        ended_none = left_none;
        none_ended = none_left;
        priorities = stand_priority;
      }

-- ---- the next step

-- a plan's step that the order may take
pub record StepDue (a : Accepted) (s : State) (p : Placed) : Type 0 where
  pub after : State
  pub taken : step a s (placed_byte a p) ≡ some after
  pub value : placed_byte a p % 16 ≡ p.mark.value
  pub whose : (step_says a s (placed_byte a p) taken).turn.frame.job ≡ job p.number

module _ (a : Accepted) (s : State) (p : Placed) (turn : Turn) where
  -- its byte, where its value is below 16
  turn_due : turn_of a s (base a (job p.number)) ≡ some turn → turn.frame.job ≡ job p.number
      → member p.mark.value (values (next_of a turn.frame)) ≡ true → p.mark.value < 16 → StepDue a s p
  unfolding placed_byte
  turn_due due whose offered small =
      let byte : ℕ = placed_byte a p in
      let task : task_of_byte byte ≡ base a (job p.number) = byte_task (base a (job p.number)) p.mark.value small in
      let value : value_of_byte byte ≡ p.mark.value = byte_value (base a (job p.number)) p.mark.value small in
      let here = ap (turn_of a s) task ∙ due in
      let taken = offered_steps a s byte turn here (ap (λ (v : ℕ). member v (values (next_of a turn.frame))) value ∙ offered) in
      let same : (step_says a s byte taken).turn ≡ turn = some_same (sym (step_says a s byte taken).due ∙ here) in
      record {
        after = performed a s (value_of_byte byte) turn;
        taken = taken;
        value = value;
        whose = ap (λ (t : Turn). t.frame.job) same ∙ whose;
      }

module _ {a : Accepted} (ok : IsAccepted a) (plan : Plan) {runs : JobRuns} (legal : Legal a plan runs) {s : State} {r : ℕ} {done : List Placed}
    (kept : PlanKept a plan s r done) (p : Placed) (rest : List Placed)
    (split : sequence (job_total a) (marks_of runs) ≡ done ++ (p ∷ rest)) where
  abbrev cut : Cut (marks_of runs) (done_marks a done) p.number p.mark
  cut = plan_cut ok plan legal done p rest split

  -- it is in this round, and of one of the jobs
  pub kept_round : r ≡ p.mark.round
  kept_round = sym kept.trace.ends ∙ cut_round ok plan legal cut s kept.trace.endings

  pub next_job : p.number < job_total a
  next_job = omega (arith, cut.known, (legal_back ok plan legal).full)

  next_turn : NextTurn a s (done_marks a done) p.number
  next_turn =
      plan_turn ok plan legal cut next_job kept.inv
      (plan_stands ok plan legal cut s kept.trace.endings kept.inv kept.trace kept.begun)

  -- the value on offer to the column is so to the turn's job
  turn_offered : member p.mark.value (values (next_of a next_turn.turn.frame)) ≡ true
  unfolding next_of job
  turn_offered =
      let turn : Turn = next_turn.turn in
      let i : ℕ = base a (job p.number) in
      let good = (good_turn ok kept.inv i next_turn.due).0 in
      let jobs = (columns a (done_marks a done) (guesses_of a plan)).jobs in
      let offered : Job → ℕ → Bool = λ y next. member p.mark.value (values (instruction_of a.table (job_at a y).task next)) in
      ap (λ (l : Local). offered turn.frame.job l.next) (sym (agree_turn ok kept.inv kept.trace good (turn_kind a s i next_turn.due)))
      ∙ ap (λ (y : Job). offered y (get_or jobs y.0 unbegun).local.next) next_turn.whose
      ∙ cut_offered a (guesses_of a plan) (legal_back ok plan legal).whole cut

  -- so the order may take it
  pub next_due : StepDue a s p
  unfolding job job_total
  next_due =
      turn_due a s p next_turn.turn next_turn.due next_turn.whose turn_offered
      (job_offered ok (job p.number) _ p.mark.value (cut_offered a (guesses_of a plan) (legal_back ok plan legal).whole cut))
