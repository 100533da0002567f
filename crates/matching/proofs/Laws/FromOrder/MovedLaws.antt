-- One step more of an order, seen in the history: which job's column it changes and how, and that no other column and
-- no other round's store changes.
-- Assumes nothing.
use Rattle.std.specs.Prelude.{◌≡◌, ◌⊎◌, ℕ, zero, suc, ◌+◌, ◌<◌, Bool, ◌||◌, List, [], ◌∷◌, length}
use Rattle.std.proofs.Math.Path.{refl, sym, ap, ap₂, subst}
use Rattle.std.proofs.Common.{◌∙◌, arith, get_or-set_same, get_or-set_other}
use Rattle.std.proofs.Math.Logic.{inl, inr}
use Rattle.std.proofs.Math.Decide.{ℕ_discrete}
use Rattle.std.proofs.Math.Bool.{false, or_comm}
use Rattle.std.proofs.Math.ListN.{get_or, set}
use Rattle.taskfile.specs.Judgement.{instruction_of}
use Rattle.notation.specs.Laws.PairLaws.{every_at}
use Rattle.notation.specs.Ordered.{Every}
use Rattle.notation.specs.Laws.TestLaws.{test_decided}
use Rattle.timing.specs.Accepted.{Accepted}
use Rattle.timing.specs.Code.IsAccepted.{IsAccepted}
use Rattle.timing.proofs.Laws.JobFacts.{jobs_few}
use Rattle.timing.specs.Relations.{job_at}
use Rattle.machine.specs.declared.Effect.{Effect}
use Rattle.machine.specs.declared.Local.{Local}
use Rattle.machine.specs.Ends.{no_store}
use Rattle.machine.specs.Instructions.{Store, perform}
use Rattle.order.specs.declared.Frame.{Frame}
use Rattle.order.specs.Code.Invariant.{Invariant}
use Rattle.order.specs.Orders.{Turn, next_of}
use Rattle.order.specs.States.{State, has_ended}
use Rattle.order.proofs.Laws.StepLaws.{GoodTurn, flag_here, flag_other, after_effect, flagged_here, ended_other, active_ended, active_goes}
use Rattle.plan.specs.Runs.{job_total}
use Rattle.matching.proofs.Laws.History.ColumnLaws.{columns_jobs, columns_length, columns_marked}
use Rattle.matching.proofs.Laws.FromOrder.EndedLaws.{ended_fewer}
use Rattle.matching.proofs.Laws.History.Histories.{Mark, Marks, job, marked, in_round, JobColumn, unbegun, effect_of}
use Rattle.matching.proofs.Laws.History.Histories.{stepped, mark_step, run_marks, Columns, columns_from, columns}
use Rattle.notation.specs.Laws.ElementLaws.{none_or_some, or_none, at_every}
use Rattle.matching.proofs.Laws.FromOrder.Traces.{Traced}
use Rattle.matching.proofs.Laws.FromOrder.TurnTraceLaws.{GoesOn, Starts, under_lower, trace_lower}

-- ---- a job with no steps

column_none : (a : Accepted) (n : ℕ) (h : Marks) (x : ℕ) (S : List Store) → get_or h x [] ≡ []
    → get_or (columns_from a n h S).jobs x unbegun ≡ unbegun
unfolding columns_from run_marks
column_none a n [] x S e = refl
column_none a n (ms ∷ h) zero S e = rw e refl
column_none a n (ms ∷ h) (suc x) S e = column_none a (suc n) h x _ e

-- ---- the step

-- the step of a turn with the value v in round r
abbrev pub mark_at : ℕ → ℕ → Mark
mark_at r v = record { round = r; value = v }

-- a job's own state is as its column says
abbrev Agrees : List JobColumn → Frame → Type 0
Agrees jobs f = (get_or jobs f.job.0 unbegun).local ≡ f.local

module _ {a : Accepted} (ok : IsAccepted a) {s : State} (inv : Invariant a s) {r : ℕ} {guesses : List Store} {h : Marks} {done : List ℕ}
    (t : Traced a s r guesses h done) {turn : Turn} (good : GoodTurn a s turn) (kind : GoesOn s turn ⊎ Starts s turn) where
  abbrev x : ℕ
  x = turn.frame.job.0

  abbrev now : Columns
  now = columns a h guesses

  -- the round is one of the plan's, since the turn's job has not ended
  pub round_open : r < job_total a
  round_open = omega (arith, ended_fewer a s turn.frame.job good.running.job good.running.unended, t.ends)

  pub moved_listed : x < length h
  unfolding job_total
  moved_listed = omega (arith, good.running.job, t.listed)

  pub has_column : x < length now.jobs
  unfolding columns
  has_column = omega (arith, moved_listed, columns_jobs a 0 h guesses)

  pub stores_all : length now.stores ≡ job_total a
  unfolding columns
  stores_all = columns_length a 0 h guesses ∙ t.guessed

  -- no job with a higher number has a step in this round
  pub moved_above : (y : ℕ) → x < y → in_round r (get_or h y []) ≡ []
  unfolding job
  moved_above y above = elim (none_or_some (in_round r (get_or h y []))) [
    | inl none ↦ none
    | inr made ↦ absurd (omega (arith, trace_lower ok good (job y) (λ e. omega arith) (t.here y made)))
  ]

  -- ---- the jobs' own states

  agree_active : Every (Agrees now.jobs) s.active
  agree_active = at_every (Agrees now.jobs) turn.frame s.active (λ k lt. t.locals k turn.frame lt)

  agree_under : Every (Agrees now.jobs) turn.under
  agree_under = elim kind [
    | inl goes ↦ (subst (Every (Agrees now.jobs)) goes agree_active).1
    | inr starts ↦ subst (Every (Agrees now.jobs)) (sym starts.all) agree_active
  ]

  pub agree_turn : Agrees now.jobs turn.frame
  unfolding columns job job_total unbegun
  agree_turn = elim kind [
    | inl goes ↦ (subst (Every (Agrees now.jobs)) goes agree_active).0
    | inr starts ↦
        ap (λ (c : JobColumn). c.local) (column_none a 0 h x guesses (t.none_yet x good.running.job starts.unbegun))
        ∙ sym starts.is_fresh
  ]

  module _ (v : ℕ) (effect : Effect) (is : perform (next_of a turn.frame) v turn.frame.local s.store ≡ effect) where
    -- the step's effect is that of the mark on the job's column and the round's store
    effect_same : effect_of a x (mark_at r v) (record { column = get_or now.jobs x unbegun; stores = now.stores })
        ≡ effect
    unfolding effect_of next_of job
    effect_same =
        ap₂ (λ (l : Local) (S : Store). perform (instruction_of a.table (job_at a turn.frame.job).task l.next) v l S)
        agree_turn (t.present round_open)
        ∙ is

    -- the columns after it
    abbrev pub own_column : JobColumn
    own_column = (stepped a x (mark_at r v) effect (record { column = get_or now.jobs x unbegun; stores = now.stores })).column

    abbrev pub moved : Columns
    moved = record { jobs = set now.jobs x own_column; stores = set now.stores r effect.store }

    pub columns_moved : columns a (marked h x (mark_at r v)) guesses ≡ moved
    unfolding mark_step stepped
    columns_moved =
        columns_marked a h x (mark_at r v) guesses moved_listed moved_above
        ∙ ap
        (λ (e : Effect). record {
          jobs = set now.jobs x (stepped a x (mark_at r v) e (record { column = get_or now.jobs x unbegun; stores = now.stores })).column;
          stores = set now.stores r e.store;
        })
        effect_same

    -- ---- what the columns after it say

    abbrev after : State
    after = after_effect s turn effect

    moved_own : get_or moved.jobs x unbegun ≡ own_column
    moved_own = get_or-set_same now.jobs x own_column unbegun has_column

    moved_other : (y : ℕ) → (y ≡ x → ⊥) → get_or moved.jobs y unbegun ≡ get_or now.jobs y unbegun
    moved_other y apart = get_or-set_other now.jobs x y own_column unbegun apart

    agree_lower : (fs : List Frame) → Every (λ f. f.job.0 < x) fs → Every (Agrees now.jobs) fs
        → Every (Agrees moved.jobs) fs
    agree_lower [] lower agree = tt
    agree_lower (f ∷ fs) lower agree = (
      ap (λ (c : JobColumn). c.local) (moved_other f.job.0 (λ e. omega (arith, lower.0))) ∙ agree.0,
      agree_lower fs lower.1 agree.1,
    )

    agree_moved : Every (Agrees moved.jobs) after.active
    unfolding stepped
    agree_moved =
        let under = agree_lower turn.under (under_lower ok good) agree_under in
        elim (test_decided effect.ended) [
          | inl ends ↦ subst (Every (Agrees moved.jobs)) (sym (active_ended ok inv good effect ends)) under
          | inr goes ↦
              subst (Every (Agrees moved.jobs)) (sym (active_goes ok inv good effect goes))
              (ap (λ (c : JobColumn). c.local) moved_own, under)
        ]

    pub moved_locals : (k : ℕ) (d : Frame) → k < length after.active
        → Agrees moved.jobs (get_or after.active k d)
    moved_locals k d lt = every_at (Agrees moved.jobs) after.active k d agree_moved lt

    -- the turn's job has ended if its instruction was an End
    pub moved_ended : has_ended after turn.frame.job ≡ effect.ended
    unfolding has_ended after_effect
    moved_ended =
        flag_here effect.ended x s.ended (flagged_here ok inv good effect)
        ∙ ap (λ (b : Bool). effect.ended || b) good.running.unended
        ∙ or_none effect.ended false refl

    pub moved_endings : (y : ℕ) → y < job_total a → (get_or moved.jobs y unbegun).ended ≡ has_ended after (job y)
    unfolding stepped job
    moved_endings y lt = elim (ℕ_discrete y x) [
      | yes same ↦
          ap (λ (n : ℕ). (get_or moved.jobs n unbegun).ended) same
          ∙ ap (λ (c : JobColumn). c.ended) moved_own
          ∙ sym moved_ended
          ∙ ap (λ (n : ℕ). has_ended after (job n)) (sym same)
      | no apart ↦
          ap (λ (c : JobColumn). c.ended) (moved_other y apart)
          ∙ t.endings y lt
          ∙ sym (ended_other ok inv good effect (job y) apart)
    ]

    -- a failed assertion is noted against it
    failed_here : own_column.failed ≡ get_or after.failed x false
    unfolding stepped after_effect job_total
    failed_here =
        ap (λ (b : Bool). b || effect.failed) (t.failures x good.running.job)
        ∙ or_comm (get_or s.failed x false) effect.failed
        ∙ sym (flag_here effect.failed x s.failed (omega (arith, good.running.job, jobs_few ok.is_timed, t.wide)))

    pub moved_failures : (y : ℕ) → y < job_total a → (get_or moved.jobs y unbegun).failed ≡ get_or after.failed y false
    unfolding after_effect
    moved_failures y lt = elim (ℕ_discrete y x) [
      | yes same ↦
          ap (λ (n : ℕ). (get_or moved.jobs n unbegun).failed) same
          ∙ ap (λ (c : JobColumn). c.failed) moved_own
          ∙ failed_here
          ∙ ap (λ (n : ℕ). get_or after.failed n false) (sym same)
      | no apart ↦
          ap (λ (c : JobColumn). c.failed) (moved_other y apart)
          ∙ t.failures y lt
          ∙ sym (flag_other effect.failed x y s.failed apart)
    ]

    -- this round's store is the step's, and those of earlier rounds stay
    pub moved_present : get_or moved.stores r no_store ≡ effect.store
    moved_present = get_or-set_same now.stores r effect.store no_store (omega (arith, stores_all, round_open))

    pub moved_past : (q : ℕ) → q < r → q + 1 < job_total a
        → get_or moved.stores q no_store ≡ get_or guesses (q + 1) no_store
    moved_past q lt inside = get_or-set_other now.stores r q effect.store no_store (λ e. omega arith) ∙ t.past q lt inside
