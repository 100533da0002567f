-- Every step keeps the invariant: the state that an order starts from has it, and so has the state after each allowed
-- step.
-- Assumes nothing.
use Rattle.std.proofs.Math.Path.{◌≡◌, refl, sym, ap, subst}
use Rattle.std.proofs.Common.{◌∙◌, arith, true≢false, length-set, get_or-set_same, get_or-set_other}
use Rattle.std.proofs.Math.Logic.{inl, inr}
use Rattle.std.specs.Prelude.{ℕ, zero, suc, ◌<◌, Bool, not, ◌&&◌, ◌||◌, length, get_or, replicate, ltb}
use Rattle.std.proofs.Math.Decide.{ℕ_discrete}
use Rattle.std.proofs.Math.Bool.{true, false}
use mathlib.Core.List.{List, [], ◌∷◌}
use Rattle.std.proofs.Math.Option.{Option, none, some, map, bind}
use Rattle.std.proofs.Math.Dec.{eqb}
use borrow.Author.Tests.{ltb-true, eqb-true, eq-eqb, ne_eqb, not-true}
use Rattle.std.specs.Prelude.{if◌then◌else◌}
use Rattle.notation.specs.Lists.{all, any, first_with, member}
use Rattle.notation.specs.Laws.PairLaws.{every_imp}
use Rattle.notation.specs.Ordered.{Every, Ordered}
use Rattle.taskfile.specs.Tables.{task_of, body_of}
use Rattle.notation.specs.Laws.TestLaws.{and_both, or_either, or_left, or_right, or_second, test_decided, or_neither, implied_holds}
use Rattle.timing.specs.declared.Job.{Job}
use Rattle.timing.specs.Accepted.{Accepted}
use Rattle.timing.specs.Code.IsAccepted.{IsAccepted}
use Rattle.timing.proofs.Laws.RelationLaws.{preempts_lower}
use Rattle.timing.specs.Relations.{IsJob, job_at, base, before, may_preempt, job_numbers}
use Rattle.machine.proofs.Laws.BodyLaws.{body_step}
use Rattle.machine.specs.declared.Effect.{Effect}
use Rattle.machine.specs.declared.Local.{Local}
use Rattle.machine.specs.Ends.{Flags, flagged, no_flags}
use Rattle.machine.specs.Instructions.{fresh, perform, values}
use Rattle.order.specs.OrderBytes.{task_of_byte, value_of_byte}
use Rattle.order.specs.declared.Frame.{Frame}
use Rattle.order.specs.Code.Invariant.{Over, IsRunning, has_begun, Invariant}
use Rattle.timing.proofs.Laws.JobFacts.{job_task, jobs_few}
use Rattle.order.specs.Orders.{Turn, start_of, turn_among, turn_of, next_of, is_offered, performed, step_with, step}
use Rattle.timing.proofs.Laws.JobNumberLaws.{all_jobs, first_job}
use Rattle.order.specs.States.{State, initial, has_ended, is_active, present_priority, may_start}

-- ---- flags

-- a flag raised at x is raised there, and every other is as it was
pub flag_here : (test : Bool) (x : ℕ) (flags : Flags) → x < length flags
    → get_or (flagged test x flags) x false ≡ (test || get_or flags x false)
unfolding flagged
flag_here true x flags lt = get_or-set_same flags x true false lt
flag_here false x flags lt = refl

pub flag_other : (test : Bool) (x y : ℕ) (flags : Flags) → (y ≡ x → ⊥)
    → get_or (flagged test x flags) y false ≡ get_or flags y false
unfolding flagged
flag_other true x y flags apart = get_or-set_other flags x y true false apart
flag_other false x y flags apart = refl

pub flag_length : (test : Bool) (x : ℕ) (flags : Flags) → length (flagged test x flags) ≡ length flags
unfolding flagged
flag_length true x flags = length-set flags x true
flag_length false x flags = refl

-- a flag once raised stays
pub flag_stays : (test : Bool) (x y : ℕ) (flags : Flags) → x < length flags → get_or flags y false ≡ true
    → get_or (flagged test x flags) y false ≡ true
flag_stays test x y flags lt e =
    elim (ℕ_discrete y x) [
      | yes same ↦ ap (λ (n : ℕ). get_or (flagged test x flags) n false) same
          ∙ flag_here test x flags lt ∙ or_right test _ (ap (λ (n : ℕ). get_or flags n false) (sym same) ∙ e)
      | no apart ↦ flag_other test x y flags apart ∙ e
    ]

-- ---- the turn

-- whose turn it is: a job that runs or has just started over those under it
pub record GoodTurn (a : Accepted) (s : State) (turn : Turn) : Type 0 where
  pub running : IsRunning a s turn.frame
  pub over : Every (Over a turn.frame) turn.under
  pub under : Every (IsRunning a s) turn.under
  pub stacked : Ordered (Over a) turn.under
  pub within : (y : Job) → any (λ f. eqb f.job.0 y.0) turn.under ≡ true → is_active s y ≡ true
  pub kept : (y : Job) → (y.0 ≡ turn.frame.job.0 → ⊥) → is_active s y ≡ true
      → any (λ f. eqb f.job.0 y.0) turn.under ≡ true
  pub preceded : (x : Job) → IsJob a x → before a x turn.frame.job ≡ true → has_ended s x ≡ true

-- a test that does not hold may stand between two others
between : (b q : Bool) → (b || q) ≡ true → ((b || false) || q) ≡ true
between true q h = refl
between false q h = h

-- a start that is allowed, condition by condition
pub record Startable (a : Accepted) (s : State) (y : Job) : Type 0 where
  pub unbegun : has_begun s y ≡ false
  pub preceded : (x : Job) → IsJob a x → before a x y ≡ true → has_ended s x ≡ true
  pub preempts : all (λ f. may_preempt a y f.job) s.active ≡ true
  pub above : all (λ f. ltb (present_priority a f) (base a y)) s.active ≡ true

pub start_says : (a : Accepted) (s : State) (y : Job) → may_start a s y ≡ true → Startable a s y
unfolding may_start has_begun
start_says a s y h =
    let third = and_both
    (not (has_ended s y || is_active s y) && all (λ x. not (before a x y) || has_ended s x) (job_numbers a) && all
    (λ f. may_preempt a y f.job) s.active) _ h in
    let second = and_both (not (has_ended s y || is_active s y) && all (λ x. not (before a x y) || has_ended s x) (job_numbers a)) _ third.0 in
    let first = and_both (not (has_ended s y || is_active s y)) _ second.0 in
    record {
      unbegun = not-true _ first.0;
      preceded = λ x isJob e. implied_holds (before a x y) _ (all_jobs a (λ x. not (before a x y) || has_ended s x) first.1 x isJob) e;
      preempts = second.1;
      above = third.1;
    }

-- an allowed start goes over every active job
over_all : (a : Accepted) (y : Job) (l : Local) (fs : List Frame) → all (λ f. may_preempt a y f.job) fs ≡ true
    → all (λ f. ltb (present_priority a f) (base a y)) fs ≡ true → Every (Over a (record { job = y; local = l })) fs
unfolding all
over_all a y l [] p q = tt
over_all a y l (f ∷ fs) p q =
    let first = and_both (may_preempt a y f.job) _ p in
    let second = and_both (ltb (present_priority a f) (base a y)) _ q in
    (record { preempts = first.0; above = ltb-true _ _ second.0 }, over_all a y l fs first.1 second.1)

-- a turn made of a job that was found
pub map_some : {A B : Type 0} (f : A → B) (o : Option A) {t : B} → map f o ≡ some t
    → (y : A) × (o ≡ some y) × (f y ≡ t)
map_some f none e = absurd (let z : ◌≡◌ {A = ℕ} 0 1 = cc in omega arith)
map_some f (some y) e = (y, refl, cc)

module _ {a : Accepted} (ok : IsAccepted a) {s : State} (inv : Invariant a s) where
  -- a body has an instruction, so a job that starts is inside it
  fresh_inside : (y : Job) → IsJob a y → fresh.next < length (body_of (task_of a.table (job_at a y).task))
  unfolding fresh base
  fresh_inside y isJob = ok.is_made.bodies (job_at a y).task (job_task ok.is_timed y isJob)

  start_good : (y : Job) → IsJob a y → may_start a s y ≡ true
      → GoodTurn a s (record { frame = record { job = y; local = fresh }; under = s.active })
  unfolding is_active has_begun
  start_good y isJob h =
      let start = start_says a s y h in
      record {
        running = record { job = isJob; unended = (or_neither (has_ended s y) _ start.unbegun).0; inside = fresh_inside y isJob };
        over = over_all a y fresh s.active start.preempts start.above;
        under = inv.running;
        stacked = inv.stacked;
        within = λ x e. e;
        kept = λ x apart e. e;
        preceded = start.preceded;
      }

  -- a start is of the task that was asked for
  pub good_start : (i : ℕ) {turn : Turn} → start_of a s i ≡ some turn
      → GoodTurn a s turn × (base a turn.frame.job ≡ i)
  unfolding start_of
  good_start i {turn} e =
      let found = map_some _ (first_with (λ y. eqb (base a y) i && may_start a s y) (job_numbers a)) e in
      let job = first_job a (λ y. eqb (base a y) i && may_start a s y) found.1 in
      let tests = and_both (eqb (base a found.0) i) _ job.1 in
      subst (λ (t : Turn). GoodTurn a s t × (base a t.frame.job ≡ i)) found.2
      (start_good found.0 job.0 tests.1, eqb-true _ _ tests.0)

  -- a turn of task i is of that task
  turn_among_lem : (i : ℕ) (active : List Frame) → s.active ≡ active → {turn : Turn} → turn_among a s i active ≡ some turn
      → GoodTurn a s turn × (base a turn.frame.job ≡ i)
  unfolding turn_among is_active has_begun any
  turn_among_lem i [] same e = good_start i e
  turn_among_lem i (f ∷ under) same {turn} e = go (eqb (base a f.job) i) refl e
    where
      top : GoodTurn a s (record { frame = f; under = under })
      top =
          let running = subst (Every (IsRunning a s)) same inv.running in
          let stacked = subst (Ordered (Over a)) same inv.stacked in
          let active : any (λ g. eqb g.job.0 f.job.0) s.active ≡ true =
          ap (any (λ g. eqb g.job.0 f.job.0)) same ∙ or_left (eqb f.job.0 f.job.0)
          (any (λ g. eqb g.job.0 f.job.0) under) (eq-eqb f.job.0 f.job.0 refl) in
          record {
            running = running.0;
            over = stacked.0;
            under = running.1;
            stacked = stacked.1;
            within = λ y h. ap (any (λ g. eqb g.job.0 y.0)) same ∙ or_right (eqb f.job.0 y.0) (any (λ g. eqb g.job.0 y.0) under) h;
            kept = λ y apart h.
                sym (or_second (eqb f.job.0 y.0) (any (λ g. eqb g.job.0 y.0) under) (ne_eqb f.job.0 y.0 (λ e. apart (sym e))))
                ∙ sym (ap (any (λ g. eqb g.job.0 y.0)) same) ∙ h;
            preceded = λ x isJob h. inv.preceded x f.job isJob running.0.job h (or_right (has_ended s f.job) (is_active s f.job) active);
          }

      go : (b : Bool) → eqb (base a f.job) i ≡ b
          → (if b then some (record { frame = f; under = under }) else start_of a s i) ≡ some turn
          → GoodTurn a s turn × (base a turn.frame.job ≡ i)
      go true here h =
          let same : record { frame = f; under = under } ≡ turn = cc in
          subst (λ (t : Turn). GoodTurn a s t × (base a t.frame.job ≡ i)) same (top, eqb-true _ _ here)
      go false here h = good_start i h

  pub good_turn : (i : ℕ) {turn : Turn} → turn_of a s i ≡ some turn → GoodTurn a s turn × (base a turn.frame.job ≡ i)
  unfolding turn_of
  good_turn i e = turn_among_lem i s.active refl e

-- ---- the state after a step

-- what the turn's job leaves, with the effect of its instruction
unfoldable pub after_effect : State → Turn → Effect → State
after_effect s turn effect =
    record {
      store = effect.store;
      ended = flagged effect.ended turn.frame.job.0 s.ended;
      failed = flagged effect.failed turn.frame.job.0 s.failed;
      active = if effect.ended then turn.under else record { job = turn.frame.job; local = effect.local } ∷ turn.under;
    }

pub performed_is : (a : Accepted) (s : State) (v : ℕ) (turn : Turn)
    → performed a s v turn ≡ after_effect s turn (perform (next_of a turn.frame) v turn.frame.local s.store)
unfolding performed after_effect
performed_is a s v turn = refl

-- where the turn's job goes on, its next instruction is inside its body
abbrev StaysInside : Accepted → Turn → Effect → Type 0
StaysInside a turn effect =
    effect.ended ≡ false → effect.local.next < length (body_of (task_of a.table (job_at a turn.frame.job).task))

module _ {a : Accepted} (ok : IsAccepted a) {s : State} (inv : Invariant a s) {turn : Turn} (good : GoodTurn a s turn) (effect : Effect) where
  abbrev x : Job
  x = turn.frame.job

  pub flagged_here : x.0 < length s.ended
  flagged_here = omega (arith, good.running.job, jobs_few ok.is_timed, inv.flags)

  -- what has ended stays ended, and nothing else ends but the turn's job
  pub ended_stays : (y : Job) → has_ended s y ≡ true → has_ended (after_effect s turn effect) y ≡ true
  unfolding has_ended after_effect
  ended_stays y h = flag_stays effect.ended x.0 y.0 s.ended flagged_here h

  pub ended_other : (y : Job) → (y.0 ≡ x.0 → ⊥) → has_ended (after_effect s turn effect) y ≡ has_ended s y
  unfolding has_ended after_effect
  ended_other y apart = flag_other effect.ended x.0 y.0 s.ended apart

  -- where it ends, it has
  pub ended_here : effect.ended ≡ true → has_ended (after_effect s turn effect) x ≡ true
  unfolding has_ended after_effect
  ended_here ends = flag_here effect.ended x.0 s.ended flagged_here ∙ rw ends refl

  -- where it goes on, it has not ended
  pub unended_here : effect.ended ≡ false → has_ended (after_effect s turn effect) x ≡ false
  unfolding has_ended after_effect
  unended_here goes = flag_here effect.ended x.0 s.ended flagged_here ∙ rw goes good.running.unended

  -- another job that is active by then is under it
  under_has : (y : Job) → (y.0 ≡ x.0 → ⊥) → (b : Bool)
      → any (λ f. eqb f.job.0 y.0)
      (if b then turn.under else record { job = x; local = effect.local } ∷ turn.under) ≡ true
      → any (λ f. eqb f.job.0 y.0) turn.under ≡ true
  unfolding any
  under_has y apart true h = h
  under_has y apart false h = rw (ne_eqb x.0 y.0 (λ e. apart (sym e))) at h

  -- a job that has begun by then had begun, or is the turn's
  pub begun_before : (y : Job) → (y.0 ≡ x.0 → ⊥) → has_begun (after_effect s turn effect) y ≡ true → has_begun s y ≡ true
  unfolding has_begun is_active after_effect
  begun_before y apart h =
      elim (or_either (has_ended (after_effect s turn effect) y) _ h) [
        | inl ended ↦ or_left (has_ended s y) _ (sym (ended_other y apart) ∙ ended)
        | inr active ↦ or_right (has_ended s y) _ (good.within y (under_has y apart effect.ended active))
      ]

  -- and what had begun has begun
  under_kept : (y : Job) → (b : Bool) → any (λ f. eqb f.job.0 y.0) turn.under ≡ true
      → any (λ f. eqb f.job.0 y.0)
      (if b then turn.under else record { job = x; local = effect.local } ∷ turn.under) ≡ true
  unfolding any
  under_kept y true h = h
  under_kept y false h = or_right (eqb x.0 y.0) _ h

  pub begun_stays : (y : Job) → (y.0 ≡ x.0 → ⊥) → has_begun s y ≡ true → has_begun (after_effect s turn effect) y ≡ true
  unfolding has_begun is_active after_effect
  begun_stays y apart h =
      elim (or_either (has_ended s y) _ h) [
        | inl ended ↦ or_left (has_ended (after_effect s turn effect) y) _ (ended_stays y ended)
        | inr active ↦ or_right (has_ended (after_effect s turn effect) y) _ (under_kept y effect.ended (good.kept y apart active))
      ]

  -- the turn's job has begun
  here_active : (b : Bool)
      → (b || any (λ f. eqb f.job.0 x.0)
      (if b then turn.under else record { job = x; local = effect.local } ∷ turn.under)) ≡ true
  unfolding any
  here_active true = refl
  here_active false = or_left (eqb x.0 x.0) _ (eq-eqb x.0 x.0 refl)

  pub begun_here : has_begun (after_effect s turn effect) x ≡ true
  unfolding has_begun has_ended is_active after_effect
  begun_here = rw (flag_here effect.ended x.0 s.ended flagged_here, good.running.unended) (between effect.ended _ (here_active effect.ended))

  preceded_after : (w y : Job) → IsJob a w → IsJob a y → before a w y ≡ true
      → has_begun (after_effect s turn effect) y ≡ true → has_ended (after_effect s turn effect) w ≡ true
  preceded_after w y isW isY h begun =
      ended_stays w
      (elim (ℕ_discrete y.0 x.0) [
        | yes same ↦ good.preceded w isW (ap (λ (n : ℕ). before a w (record { 0 = n })) (sym same) ∙ h)
        | no apart ↦ inv.preceded w y isW isY h (begun_before y apart begun)
      ])

  -- those under it run on
  over_apart : (f : Frame) → IsRunning a s f → Over a turn.frame f → IsRunning a (after_effect s turn effect) f
  over_apart f running over =
      let lower = preempts_lower ok.is_timed x f.job running.job over.preempts in
      record {
        job = running.job;
        unended = ended_other f.job (λ e. omega (arith, lower.1)) ∙ running.unended;
        inside = running.inside;
      }

  under_runs : (fs : List Frame) → Every (IsRunning a s) fs → Every (Over a turn.frame) fs
      → Every (IsRunning a (after_effect s turn effect)) fs
  under_runs [] runs over = tt
  under_runs (f ∷ fs) runs over = (over_apart f runs.0 over.0, under_runs fs runs.1 over.1)

  -- the active jobs after it
  pub active_ended : effect.ended ≡ true → (after_effect s turn effect).active ≡ turn.under
  unfolding after_effect
  active_ended e = rw e refl

  pub active_goes : effect.ended ≡ false
      → (after_effect s turn effect).active ≡ record { job = x; local = effect.local } ∷ turn.under
  unfolding after_effect
  active_goes e = rw e refl

  flags_kept : length (after_effect s turn effect).ended ≡ 32
  unfolding after_effect
  flags_kept = flag_length effect.ended x.0 s.ended ∙ inv.flags

  -- the invariant holds after it
  pub effect_keeps : StaysInside a turn effect → Invariant a (after_effect s turn effect)
  effect_keeps inside =
      elim (test_decided effect.ended) [
        | inl ended ↦ keeps turn.under (active_ended ended) under good.stacked
        | inr goes ↦
            keeps _ (active_goes goes)
            (record { job = good.running.job; unended = unended_here goes; inside = inside goes }, under) (
              every_imp (Over a turn.frame) (Over a _)
                  (λ f over. record { preempts = over.preempts; above = over.above }) turn.under good.over,
              good.stacked,
            )
      ]
    where
      under : Every (IsRunning a (after_effect s turn effect)) turn.under
      under = under_runs turn.under good.under good.over

      keeps : (fs : List Frame) → (after_effect s turn effect).active ≡ fs
          → Every (IsRunning a (after_effect s turn effect)) fs → Ordered (Over a) fs
          → Invariant a (after_effect s turn effect)
      keeps fs e runs stacked = record {
        flags = flags_kept;
        running = subst (Every (IsRunning a (after_effect s turn effect))) (sym e) runs;
        stacked = subst (Ordered (Over a)) (sym e) stacked;
        preceded = preceded_after;
      }

-- ---- every step

module _ {a : Accepted} (ok : IsAccepted a) {s : State} (inv : Invariant a s) where
  -- the turn's job performs an instruction of its body
  pub turn_inside : (v : ℕ) {turn : Turn} → GoodTurn a s turn
      → StaysInside a turn (perform (next_of a turn.frame) v turn.frame.local s.store)
  unfolding next_of base
  turn_inside v {turn} good goes =
      (body_step a.table ok.is_judged (job_at a turn.frame.job).task (job_task ok.is_timed turn.frame.job good.running.job)
      turn.frame.local good.running.inside v s.store goes).1

  pub performed_keeps : (v : ℕ) {turn : Turn} → GoodTurn a s turn → Invariant a (performed a s v turn)
  performed_keeps v {turn} good = rw (performed_is a s v turn) (effect_keeps ok inv good _ (turn_inside v good))

-- what an allowed step is: a turn with a value on offer
pub record AllowedStep (a : Accepted) (s : State) (byte : ℕ) (after : State) : Type 0 where
  pub turn : Turn
  pub due : turn_of a s (task_of_byte byte) ≡ some turn
  pub offered : member (value_of_byte byte) (values (next_of a turn.frame)) ≡ true
  pub made : performed a s (value_of_byte byte) turn ≡ after

module _ {a : Accepted} {s : State} {byte : ℕ} {after : State} where
  offered_says : (turn : Turn) → turn_of a s (task_of_byte byte) ≡ some turn → (b : Bool)
      → member (value_of_byte byte) (values (next_of a turn.frame)) ≡ b
      → (if b then some (performed a s (value_of_byte byte) turn) else none) ≡ some after → AllowedStep a s byte after
  offered_says turn due true o h = record { turn = turn; due = due; offered = o; made = cc }
  offered_says turn due false o h = absurd (let z : ◌≡◌ {A = ℕ} 0 1 = cc in omega arith)

  turn_says : (o : Option Turn) → turn_of a s (task_of_byte byte) ≡ o → bind o (step_with a s (value_of_byte byte)) ≡ some after
      → AllowedStep a s byte after
  unfolding step_with bind
  turn_says none due h = absurd (let z : ◌≡◌ {A = ℕ} 0 1 = cc in omega arith)
  turn_says (some turn) due h = offered_says turn due (member (value_of_byte byte) (values (next_of a turn.frame))) refl h

pub step_says : (a : Accepted) (s : State) (byte : ℕ) {after : State} → step a s byte ≡ some after
    → AllowedStep a s byte after
unfolding step
step_says a s byte e = turn_says (turn_of a s (task_of_byte byte)) refl e

-- and such a turn is one
pub offered_steps : (a : Accepted) (s : State) (byte : ℕ) (turn : Turn) → turn_of a s (task_of_byte byte) ≡ some turn
    → is_offered a turn (value_of_byte byte) ≡ true → step a s byte ≡ some (performed a s (value_of_byte byte) turn)
unfolding step step_with bind
offered_steps a s byte turn due offered = rw (due, offered) refl

-- "the state after a step is reachable": every step keeps the invariant
pub step_keeps : {a : Accepted} → IsAccepted a → {s : State} → Invariant a s → (byte : ℕ) {after : State}
    → step a s byte ≡ some after → Invariant a after
step_keeps {a} ok {s} inv byte e =
    let made = step_says a s byte e in
    subst (Invariant a) made.made (performed_keeps ok inv (value_of_byte byte) (good_turn ok inv (task_of_byte byte) made.due).0)

-- an order starts from a state that has it
pub no_flag : (n x : ℕ) → get_or (replicate n false) x false ≡ false
no_flag zero x = refl
no_flag (suc n) zero = refl
no_flag (suc n) (suc x) = no_flag n x

pub initial_invariant : (a : Accepted) → Invariant a (initial a)
unfolding initial no_flags has_begun has_ended is_active any
initial_invariant a = record {
  flags = refl;
  running = tt;
  stacked = tt;
  preceded = λ x y is_x isY h begun.
      absurd (true≢false (sym begun ∙ ap (λ (b : Bool). b || false) (no_flag 32 y.0)));
}
