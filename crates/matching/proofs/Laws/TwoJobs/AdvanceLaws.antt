-- One step more of an order as plain facts: which jobs have begun, are active and have ended after it, which steps
-- the jobs have then made, and that every other active job is one that the job of this step may preempt, with its
-- priority below that one's base.
-- Assumes nothing.
use Rattle.std.specs.Prelude.{◌≡◌, ℕ, suc, ◌≤◌, ◌<◌, Bool, true, false, ◌&&◌, List, [], ◌∷◌, ◌++◌, get_or}
use Rattle.std.proofs.Math.Path.{refl, sym}
use Rattle.std.proofs.Common.{ap, subst, ◌∙◌, arith, eqb-true, ne_eqb}
use Rattle.std.proofs.Math.Logic.{inl, inr}
use Rattle.std.proofs.Math.Decide.{ℕ_discrete}
use Rattle.std.proofs.Math.Option.{some}
use Rattle.std.proofs.Math.Dec.{eqb}
use Rattle.std.specs.Prelude.{if◌then◌else◌}
use Rattle.notation.specs.Lists.{any, first_with}
use Rattle.notation.specs.Laws.PairLaws.{every_at}
use Rattle.notation.specs.Ordered.{Every}
use Rattle.notation.specs.Laws.QuantifierLaws.{any_at}
use Rattle.taskfile.specs.Tables.{ceilings_of}
use Rattle.notation.specs.Laws.TestLaws.{or_second, test_decided, not_both}
use Rattle.timing.specs.declared.Job.{Job}
use Rattle.timing.specs.Accepted.{Accepted}
use Rattle.timing.specs.Code.IsAccepted.{IsAccepted}
use Rattle.timing.proofs.Laws.RelationLaws.{preempts_lower}
use Rattle.timing.specs.Relations.{IsJob, base, before, may_preempt, job_numbers}
use Rattle.machine.specs.declared.Effect.{Effect}
use Rattle.machine.specs.Held.{priority}
use Rattle.order.specs.declared.Frame.{Frame}
use Rattle.order.specs.Code.Invariant.{Over, IsRunning, has_begun, Invariant}
use Rattle.order.specs.Orders.{Turn, start_of, turn_among, turn_of}
use Rattle.order.specs.States.{State, has_ended, is_active, present_priority, may_start}
use Rattle.order.proofs.Laws.StepLaws.{GoodTurn, after_effect, flagged_here, flag_here, ended_other, begun_before}
use Rattle.order.proofs.Laws.StepLaws.{begun_stays, begun_here, active_ended, active_goes, map_some}
use Rattle.plan.specs.Runs.{Step}
use Rattle.matching.proofs.Laws.TwoJobs.MadeLaws.{made_with, made_here, made_other, now_same, now_more}
use Rattle.matching.proofs.Laws.TwoJobs.Pairings.{Made, priority_now}

-- the step that the turn's job makes, and the round after it
unfoldable pub turn_step : Accepted → ℕ → ℕ → Turn → Effect → Step
turn_step a r v turn effect =
    record {
      round = record { 0 = r };
      value = v;
      priority_after = priority (ceilings_of a.table) (base a turn.frame.job) effect.local.held;
    }

unfoldable pub round_advanced : ℕ → Effect → ℕ
round_advanced r effect = if effect.ended then suc r else r

unfoldable pub made_after : Accepted → ℕ → ℕ → Turn → Effect → Made → Made
made_after a r v turn effect made = made_with made turn.frame.job.0 (turn_step a r v turn effect)

-- ---- one step more, in facts

-- the step st of job x leads from s to now, and from round r to the round next
pub record Advance (a : Accepted) (s now : State) (r next : ℕ) (made later : Made) (x : Job) (st : Step) : Type 0 where
  pub is_x : IsJob a x
  pub unended : has_ended s x ≡ false
  pub preceded : (w : Job) → IsJob a w → before a w x ≡ true → has_ended s w ≡ true
  -- which jobs have ended, have begun and are active
  pub ended_here : has_ended now x ≡ true → r < next
  pub ended_other : (y : Job) → (y.0 ≡ x.0 → ⊥) → has_ended now y ≡ has_ended s y
  pub begun_here : has_begun now x ≡ true
  pub begun_before : (y : Job) → (y.0 ≡ x.0 → ⊥) → has_begun now y ≡ true → has_begun s y ≡ true
  pub begun_stays : (y : Job) → (y.0 ≡ x.0 → ⊥) → has_begun s y ≡ true → has_begun now y ≡ true
  pub active_before : (y : Job) → (y.0 ≡ x.0 → ⊥) → is_active now y ≡ true → is_active s y ≡ true
  -- the other active jobs are below x
  pub preempts : (y : Job) → (y.0 ≡ x.0 → ⊥) → is_active s y ≡ true → may_preempt a x y ≡ true
  pub above : (y : Job) → (y.0 ≡ x.0 → ⊥) → is_active s y ≡ true → priority_now a made y < base a x
  -- the steps made, the rounds and the priorities
  pub more_here : later x.0 ≡ made x.0 ++ (st ∷ [])
  pub more_other : (y : Job) → (y.0 ≡ x.0 → ⊥) → later y.0 ≡ made y.0
  pub round : st.round.0 ≡ r
  pub onward : r ≤ next
  pub priorities : Every (λ f. priority_now a later f.job ≡ present_priority a f) now.active

-- ---- whose turn it is

-- what holds of the active jobs holds of those under the turn's
under_start : (a : Accepted) (s : State) (i : ℕ) {turn : Turn} (P : Frame → Type 0) → start_of a s i ≡ some turn
    → Every P s.active → Every P turn.under
unfolding start_of
under_start a s i P e h =
    let found = map_some _ (first_with (λ y. eqb (base a y) i && may_start a s y) (job_numbers a)) e in
    subst (λ (t : Turn). Every P t.under) found.2 h

under_among : (a : Accepted) (s : State) (i : ℕ) {turn : Turn} (P : Frame → Type 0) (active : List Frame)
    → s.active ≡ active → turn_among a s i active ≡ some turn → Every P s.active → Every P turn.under
unfolding turn_among
under_among a s i P [] same e h = under_start a s i P e h
under_among a s i {turn} P (f ∷ under) same e h = go (eqb (base a f.job) i) e
  where
    go : (b : Bool) → (if b then some (record { frame = f; under = under }) else start_of a s i) ≡ some turn
        → Every P turn.under
    go true k =
        let turns : record { frame = f; under = under } ≡ turn = cc in
        subst (λ (t : Turn). Every P t.under) turns (subst (Every P) same h).1
    go false k = under_start a s i P k h

pub under_every : (a : Accepted) (s : State) (i : ℕ) {turn : Turn} (P : Frame → Type 0) → turn_of a s i ≡ some turn
    → Every P s.active → Every P turn.under
unfolding turn_of
under_every a s i P e h = under_among a s i P s.active refl e h

-- a fact of every frame is one of the frame of a job that is among them
pub of_job_lem : (P : Frame → Type 0) (d : Frame) (fs : List Frame) (y : Job) → Every P fs
    → any (λ f. eqb f.job.0 y.0) fs ≡ true → (f : Frame) × P f × (f.job ≡ y)
of_job_lem P d fs y h e =
    let found = any_at (λ f. eqb f.job.0 y.0) fs d e in
    let k = found.0 in (
      get_or fs k d,
      every_at P fs k d h found.1,
      ap (λ (n : ℕ). record { 0 = n }) (eqb-true (get_or fs k d).job.0 y.0 found.2),
    )

-- a fact of job x and of every other is one of all
pub by_job : (x : Job) (P : Job → Type 0) → P x → ((y : Job) → (y.0 ≡ x.0 → ⊥) → P y) → (y : Job) → P y
by_job x P here other y =
    elim (ℕ_discrete y.0 x.0) [
      | yes same ↦ (let jobs : x ≡ y = ap (λ (n : ℕ). record { 0 = n }) (sym same) in subst P jobs here)
      | no apart ↦ other y apart
    ]

-- of two jobs at most one may preempt the other, and no job itself
pub one_way : {a : Accepted} → IsAccepted a → (x y : Job) → IsJob a x → IsJob a y → may_preempt a y x ≡ true
    → may_preempt a x y ≡ true → ⊥
one_way ok x y is_x isY h k = omega (arith, preempts_lower ok.is_timed y x is_x h, preempts_lower ok.is_timed x y isY k)

pub preempts_apart : {a : Accepted} → IsAccepted a → (x y : Job) → IsJob a x → may_preempt a y x ≡ true → y.0 ≡ x.0 → ⊥
preempts_apart ok x y is_x h e = omega (arith, preempts_lower ok.is_timed y x is_x h)

module _ {a : Accepted} (ok : IsAccepted a) {s : State} (inv : Invariant a s) {turn : Turn} (good : GoodTurn a s turn) (effect : Effect) where
  abbrev x : Job
  x = turn.frame.job

  abbrev now : State
  now = after_effect s turn effect

  -- ---- which jobs have ended and are active after the step

  pub ended_here : has_ended now x ≡ true → effect.ended ≡ true
  unfolding has_ended after_effect
  ended_here h =
      elim (test_decided effect.ended) [
        | inl e ↦ e
        | inr e ↦
            absurd (not_both _ h (flag_here effect.ended x.0 s.ended (flagged_here ok inv good effect) ∙ rw e good.running.unended))
      ]

  pub active_before : (y : Job) → (y.0 ≡ x.0 → ⊥) → is_active now y ≡ true → is_active s y ≡ true
  unfolding is_active any
  active_before y apart h =
      good.within y
      (elim (test_decided effect.ended) [
        | inl e ↦ sym (ap (any (λ f. eqb f.job.0 y.0)) (active_ended ok inv good effect e)) ∙ h
        | inr e ↦
            sym (or_second (eqb x.0 y.0) _ (ne_eqb x.0 y.0 (λ same. apart (sym same))))
            ∙ sym (ap (any (λ f. eqb f.job.0 y.0)) (active_goes ok inv good effect e)) ∙ h
      ])

  -- another active job is one that the turn's may preempt
  pub active_lower : (y : Job) → (y.0 ≡ x.0 → ⊥) → is_active s y ≡ true → may_preempt a x y ≡ true
  active_lower y apart h =
      let found = of_job_lem (Over a turn.frame) turn.frame turn.under y good.over (good.kept y apart h) in
      subst (λ (y : Job). may_preempt a x y ≡ true) found.2 found.1.preempts

  -- ---- the steps made

  -- the round does not go back, and goes on where the turn's job ended
  round_stays : (r : ℕ) → r ≤ round_advanced r effect
  unfolding round_advanced
  round_stays r = elim (test_decided effect.ended) [ inl e ↦ rw e (omega arith) | inr e ↦ rw e (omega arith) ]

  round_goes : (r : ℕ) → effect.ended ≡ true → r < round_advanced r effect
  unfolding round_advanced
  round_goes r e = rw e (omega arith)

  -- each of these frames has the priority that its job's steps say
  abbrev Held : Made → List Frame → Type 0
  Held made fs = Every (λ f. priority_now a made f.job ≡ present_priority a f) fs

  module _ (r : ℕ) (made : Made) (v : ℕ) (held : Held made turn.under) where
    abbrev st : Step
    st = turn_step a r v turn effect

    abbrev later : Made
    later = made_after a r v turn effect made

    more_here : later x.0 ≡ made x.0 ++ (st ∷ [])
    unfolding made_after
    more_here = made_here made x.0 st

    more_other : (y : Job) → (y.0 ≡ x.0 → ⊥) → later y.0 ≡ made y.0
    unfolding made_after
    more_other y apart = made_other made x.0 st y.0 apart

    round_is : st.round.0 ≡ r
    unfolding turn_step
    round_is = refl

    -- another active job's priority is below the base of the turn's
    abbrev Below : Frame → Type 0
    Below f = priority_now a made f.job < base a x

    under_below : (fs : List Frame) → Held made fs → Every (Over a turn.frame) fs → Every Below fs
    under_below [] held over = tt
    under_below (f ∷ fs) held over = (omega (arith, held.0, over.0.above), under_below fs held.1 over.1)

    active_above : (y : Job) → (y.0 ≡ x.0 → ⊥) → is_active s y ≡ true → priority_now a made y < base a x
    active_above y apart h =
        let found = of_job_lem Below turn.frame turn.under y (under_below turn.under held good.over) (good.kept y apart h) in
        subst (λ (y : Job). priority_now a made y < base a x) found.2 found.1

    -- those under the turn's job keep theirs, and it has that of its new step
    held_under : (fs : List Frame) → Held made fs → Every (IsRunning a s) fs → Every (Over a turn.frame) fs
        → Held later fs
    held_under [] held runs over = tt
    held_under (f ∷ fs) held runs over =
        let apart : f.job.0 ≡ x.0 → ⊥ = λ e. preempts_apart ok f.job x runs.0.job over.0.preempts (sym e) in
        (now_same made later f.job (more_other f.job apart) a ∙ held.0, held_under fs held.1 runs.1 over.1)

    held_here : priority_now a later x ≡ present_priority a (record { job = x; local = effect.local })
    unfolding turn_step present_priority
    held_here = now_more made later x st more_here a

    held_after : Held later now.active
    held_after =
        let under = held_under turn.under held good.under good.over in
        elim (test_decided effect.ended) [
          | inl e ↦ subst (Held later) (sym (active_ended ok inv good effect e)) under
          | inr e ↦ subst (Held later) (sym (active_goes ok inv good effect e)) (held_here, under)
        ]

    pub step_advances : Advance a s now r (round_advanced r effect) made later x st
    step_advances = record {
      is_x = good.running.job;
      unended = good.running.unended;
      preceded = good.preceded;
      ended_here = λ h. round_goes r (ended_here h);
      ended_other = ended_other ok inv good effect;
      begun_here = begun_here ok inv good effect;
      begun_before = begun_before ok inv good effect;
      begun_stays = begun_stays ok inv good effect;
      active_before = active_before;
      preempts = active_lower;
      above = active_above;
      more_here = more_here;
      more_other = more_other;
      round = round_is;
      onward = round_stays r;
      priorities = held_after;
    }
