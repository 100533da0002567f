-- The next step of a legal plan, read by rows, is an allowed turn: its job is the active job started last, or it may
-- start.
-- Assumes nothing.
use Rattle.std.specs.Prelude.{◌≡◌, true, false, not, ◌&&◌, ◌||◌, take}
use Rattle.std.proofs.Math.Path.{refl, ap, subst}
use Rattle.std.proofs.Common.{sym, ◌∙◌}
use Rattle.std.proofs.Math.Logic.{inl, inr}
use Prim.Native.Nat.{ℕ, ◌<◌}
use Rattle.std.proofs.Math.Decide.{dec_lt, ℕ_discrete}
use native.Mathlib.Omega.{arith}
use Rattle.std.proofs.lemmas.Bool.{false≢true}
use mathlib.Core.List.{List, [], ◌∷◌, map}
use Rattle.std.proofs.Math.Option
use Rattle.std.proofs.Math.Option.{some}
use Rattle.std.proofs.Math.ListN.{length, get_or}
use Rattle.std.proofs.Math.Dec.{ltb, eqb}
use borrow.Author.Tests.{eqb-true, lt-ltb, eq-eqb, ne_eqb}
use Rattle.std.specs.Prelude.{if◌then◌else◌}
use Rattle.notation.specs.Lists.{all, any, last_or}
use Rattle.notation.specs.Laws.PairLaws.{every_at}
use Rattle.notation.specs.Ordered.{Every, Ordered}
use Rattle.notation.specs.Laws.QuantifierLaws.{at_all, any_at, at_any}
use Rattle.notation.specs.Laws.TestLaws.{and_both, or_either, and_holds, or_right, test_decided, not_both, or_neither, holds_implied}
use Rattle.timing.specs.declared.Job.{Job}
use Rattle.timing.specs.Accepted.{Accepted}
use Rattle.timing.specs.Code.IsAccepted.{IsAccepted}
use Rattle.timing.proofs.Laws.JobFacts.{same_task}
use Rattle.timing.proofs.Laws.JobNumberLaws.{jobs_all, only_job}
use Rattle.timing.proofs.Laws.RelationLaws.{preempts_lower}
use Rattle.timing.specs.Relations.{IsJob, base, before, may_preempt}
use Rattle.machine.specs.Instructions.{fresh}
use Rattle.order.specs.declared.Frame.{Frame}
use Rattle.order.specs.Code.Invariant.{Over, IsRunning, has_begun, Invariant}
use Rattle.order.specs.Orders.{Turn, start_of, turn_among, turn_of}
use Rattle.order.specs.States.{State, has_ended, is_active, present_priority, may_start}
use Rattle.order.proofs.Laws.StepLaws.{Startable, start_says}
use Rattle.plan.specs.Legality.{steps_of, priority_at}
use Rattle.plan.specs.Plans.{Legal}
use Rattle.plan.specs.Runs.{Plan, JobRuns, job_total}
use Rattle.matching.proofs.Laws.FromPlan.Cuts.{Cut}
use Rattle.matching.proofs.Laws.History.Histories.{Mark, Marks, job}
use Rattle.notation.specs.Laws.ElementLaws.{Some, none_or_some}
use Rattle.matching.proofs.Laws.History.PlanReading.{marks_of}
use Rattle.matching.proofs.Laws.FromPlan.PlanRounds.{next_left, starts_here, priority_made, none_above, lies_within, before_done}
use Rattle.matching.proofs.Laws.FromOrder.TurnTraceLaws.{GoesOn, Starts}

-- a state that stands where of a run's steps those of `now` are made and those of `rest` are left: the jobs that have
-- begun are those with a step made, those that have ended have none left, and an active job's priority is that after
-- its steps made
pub record Stands (a : Accepted) (s : State) (runs : JobRuns) (now : Marks) (rest : ℕ → List Mark) : Type 0 where
  pub begun_some : (y : ℕ) → y < job_total a → has_begun s (job y) ≡ true → get_or now y [] ≡ [] → ⊥
  pub some_begun : (y : ℕ) → y < job_total a → (get_or now y [] ≡ [] → ⊥) → has_begun s (job y) ≡ true
  pub ended_none : (y : ℕ) → y < job_total a → has_ended s (job y) ≡ true → rest y ≡ []
  pub none_ended : (y : ℕ) → y < job_total a → rest y ≡ [] → has_ended s (job y) ≡ true
  pub priorities : (k : ℕ) (d : Frame) → k < length s.active
      → present_priority a (get_or s.active k d) ≡ last_or (base a (get_or s.active k d).job) (map
      (λ step. step.priority_after)
      (take (length (get_or now (get_or s.active k d).job.0 [])) (steps_of runs (get_or s.active k d).job)))

-- the turn of job x: it goes on where it has a step made, and starts where it has none
pub record NextTurn (a : Accepted) (s : State) (now : Marks) (x : ℕ) : Type 0 where
  pub turn : Turn
  pub due : turn_of a s (base a (job x)) ≡ some turn
  pub whose : turn.frame.job ≡ job x
  pub goes : (get_or now x [] ≡ [] → ⊥) → GoesOn s turn
  pub starts : get_or now x [] ≡ [] → Starts s turn

-- what a start asks, condition by condition
may_start_lem : (a : Accepted) (s : State) (y : Job) → Startable a s y → may_start a s y ≡ true
unfolding may_start has_begun
may_start_lem a s y h =
    and_holds _ _
    (and_holds _ _
    (and_holds (not (has_ended s y || is_active s y)) _ (ap not h.unbegun)
    (jobs_all a (λ x. not (before a x y) || has_ended s x) (λ x is_x. holds_implied (before a x y) (has_ended s x) (h.preceded x is_x))))
    h.preempts)
    h.above

module _ {a : Accepted} (ok : IsAccepted a) (s : State) (x : Job) (is_x : IsJob a x) where
  -- a job of x's task that may start is x: of two jobs of a task the earlier comes before the later
  start_only : Startable a s x → (y : Job) → IsJob a y → base a y ≡ base a x → may_start a s y ≡ true → y.0 ≡ x.0
  unfolding has_begun
  start_only may y isY same h =
      let other = start_says a s y h in
      elim (ℕ_discrete y.0 x.0) [
        | yes equal ↦ equal
        | no apart ↦
            elim (dec_lt y.0 x.0) [
              | yes below ↦
                  let waits = may.preceded y isY (same_task ok.is_timed y x below is_x same) in
                  absurd (not_both _ waits (or_neither (has_ended s y) _ other.unbegun).0)
              | no above ↦
                  let waits = other.preceded x is_x (same_task ok.is_timed x y (omega arith) isY (sym same)) in
                  absurd (not_both _ waits (or_neither (has_ended s x) _ may.unbegun).0)
            ]
      ]

  -- so a byte of its task starts it
  start_found : Startable a s x
      → start_of a s (base a x) ≡ some (record { frame = record { job = x; local = fresh }; under = s.active })
  unfolding start_of
  start_found may =
      ap (Option.map _)
      (only_job a (λ y. eqb (base a y) (base a x) && may_start a s y) x is_x
      (and_holds (eqb (base a x) (base a x)) _ (eq-eqb (base a x) (base a x) refl) (may_start_lem a s x may))
      (λ y isY t. (let tests = and_both (eqb (base a y) (base a x)) _ t in start_only may y isY (eqb-true _ _ tests.0) tests.1)))

  -- no active job is of its task
  start_among : Startable a s x → (active : List Frame) → all (λ f. may_preempt a x f.job) active ≡ true
      → Every (IsRunning a s) active → turn_among a s (base a x) active ≡ start_of a s (base a x)
  unfolding turn_among all
  start_among may [] over runs = refl
  start_among may (f ∷ under) over runs =
      let lower = (preempts_lower ok.is_timed x f.job runs.0.job (and_both (may_preempt a x f.job) _ over).0).0 in
      rw (ne_eqb (base a f.job) (base a x) (λ e. omega arith)) refl

-- the active job started last takes a byte of its task
top_among : (a : Accepted) (s : State) (f : Frame) (under : List Frame) (i : ℕ) → base a f.job ≡ i
    → turn_among a s i (f ∷ under) ≡ some (record { frame = f; under = under })
unfolding turn_among
top_among a s f under i e = rw (eq-eqb (base a f.job) i e) refl

module _ {a : Accepted} (ok : IsAccepted a) (plan : Plan) {runs : JobRuns} (legal : Legal a plan runs) {now : Marks} {x : ℕ} {m : Mark}
    (cut : Cut (marks_of runs) now x m) (is_x : x < job_total a) {s : State} (inv : Invariant a s) (stands : Stands a s runs now cut.rest) where
  known : IsJob a (job x)
  unfolding job job_total
  known = is_x

  -- an active job has a step made and a step left
  active_some : (y : Job) → IsJob a y → is_active s y ≡ true → Some (get_or now y.0 [])
  unfolding has_begun job job_total
  active_some y isY h = stands.begun_some y.0 isY (or_right (has_ended s y) _ h)

  active_left : (y : Job) → IsJob a y → has_ended s y ≡ false → Some (cut.rest y.0)
  unfolding job job_total
  active_left y isY h none = not_both (has_ended s y) (stands.none_ended y.0 isY none) h

  -- the frame at place k of the active jobs
  abbrev at : ℕ → Frame → Frame
  at k d = get_or s.active k d

  is_active_lem : (k : ℕ) (d : Frame) → k < length s.active → is_active s (at k d).job ≡ true
  unfolding is_active
  is_active_lem k d lt = at_any (λ f. eqb f.job.0 (at k d).job.0) s.active k d lt (eq-eqb (at k d).job.0 (at k d).job.0 refl)

  runs_at : (k : ℕ) (d : Frame) → k < length s.active → IsRunning a s (at k d)
  runs_at k d lt = every_at (IsRunning a s) s.active k d inv.running lt

  -- no active job is above x in number
  active_low : (k : ℕ) (d : Frame) → k < length s.active → x < (at k d).job.0 → ⊥
  unfolding job
  active_low k d lt above =
      let run = runs_at k d lt in
      none_above runs cut ok plan legal known (at k d).job.0 run.job above
      (active_some (at k d).job run.job (is_active_lem k d lt)) (active_left (at k d).job run.job run.unended)

  -- ---- x has a step made

  module _ (some_made : Some (get_or now x [])) where
    x_active : is_active s (job x) ≡ true
    unfolding has_begun
    x_active =
        elim (or_either (has_ended s (job x)) _ (stands.some_begun x is_x some_made)) [
          | inl ended ↦ absurd (next_left runs cut (stands.ended_none x is_x ended))
          | inr active ↦ active
        ]

    -- the first of the active jobs is x: it is not above x, and every other is below it
    first_is : (f : Frame) (under : List Frame) → s.active ≡ f ∷ under → f.job.0 ≡ x
    unfolding is_active any job
    first_is f under is =
        let stacked = subst (Ordered (Over a)) is inv.stacked in
        let running = subst (Every (IsRunning a s)) is inv.running in
        let found = ap (any (λ g. eqb g.job.0 x)) (sym is) ∙ x_active in
        elim (or_either (eqb f.job.0 x) _ found) [
          | inl here ↦ eqb-true _ _ here
          | inr later ↦
              let place = any_at (λ g. eqb g.job.0 x) under f later in
              let g = get_or under place.0 f in
              let over = every_at (Over a f) under place.0 f stacked.0 place.1 in
              let run = every_at (IsRunning a s) under place.0 f running.1 place.1 in
              let lower = (preempts_lower ok.is_timed f.job g.job run.job over.preempts).1 in
              let count = ap length is in
              let first = ap (λ (l : List Frame). (get_or l 0 f).job.0) is in
              absurd (active_low 0 f (omega (arith, count)) (omega (arith, first, lower, eqb-true g.job.0 x place.2)))
        ]

    goes_among : (active : List Frame) → s.active ≡ active → NextTurn a s now x
    unfolding turn_of is_active any job
    goes_among [] is = absurd (false≢true (ap (any (λ g. eqb g.job.0 x)) (sym is) ∙ x_active))
    goes_among (f ∷ under) is =
        let same : f.job ≡ job x = ap (λ (n : ℕ). job n) (first_is f under is) in
        record {
          turn = record { frame = f; under = under };
          due = ap (turn_among a s (base a (job x))) is ∙ top_among a s f under (base a (job x)) (ap (base a) same);
          whose = same;
          goes = λ begun. is;
          starts = λ none. absurd (some_made none);
        }

  -- ---- x has none

  module _ (none_made : get_or now x [] ≡ []) where
    -- x may start over each active job
    over_at : (k : ℕ) (d : Frame) → k < length s.active
        → (may_preempt a (job x) (at k d).job ≡ true) × (present_priority a (at k d) < base a (job x))
    unfolding job
    over_at k d lt =
        let y : ℕ = (at k d).job.0 in
        let run = runs_at k d lt in
        let begun = active_some (at k d).job run.job (is_active_lem k d lt) in
        let apart : y ≡ x → ⊥ = λ e. begun (ap (λ (n : ℕ). get_or now n []) e ∙ none_made) in
        let low : x < y → ⊥ = active_low k d lt in
        let below : y < x = omega arith in
        let within = lies_within runs cut ok plan legal known y below none_made begun (active_left (at k d).job run.job run.unended) in
        let here = ap (priority_at a runs (job y)) (starts_here runs cut none_made) ∙ priority_made runs cut a y below in
        (within.preempts, omega (arith, within.unlocked, here, stands.priorities k d lt))

    unbegun_here : has_begun s (job x) ≡ false
    unbegun_here = elim (test_decided (has_begun s (job x))) [
      | inl begun ↦ absurd (stands.begun_some x is_x begun none_made)
      | inr not_yet ↦ not_yet
    ]

    none_frame : Frame
    none_frame = record { job = job x; local = fresh }

    startable : Startable a s (job x)
    unfolding job job_total
    startable = record {
      unbegun = unbegun_here;
      preceded = λ z isZ h. stands.none_ended z.0 isZ (before_done runs cut ok plan legal known z isZ h none_made);
      preempts = at_all (λ f. may_preempt a (job x) f.job) s.active none_frame (λ k lt. (over_at k none_frame lt).0);
      above = at_all (λ f. ltb (present_priority a f) (base a (job x))) s.active none_frame (λ k lt. lt-ltb _ _ (over_at k none_frame lt).1);
    }

    starts_turn : NextTurn a s now x
    unfolding turn_of
    starts_turn = record {
      turn = record { frame = record { job = job x; local = fresh }; under = s.active };
      due = start_among ok s (job x) known startable s.active startable.preempts inv.running ∙ start_found ok s (job x) known startable;
      whose = refl;
      goes = λ begun. absurd (begun none_made);
      starts = λ none. record { unbegun = unbegun_here; is_fresh = refl; all = refl };
    }

  -- the next step of a legal plan is an allowed turn
  pub plan_turn : NextTurn a s now x
  plan_turn = elim (none_or_some (get_or now x [])) [
    | inl none ↦ starts_turn none
    | inr begun ↦ goes_among begun s.active refl
  ]
