-- Every order of an accepted table has at most 16 steps a job. Left of a job are 16 steps where it has not begun,
-- what its position leaves of 16 where it is active, and none where it has ended; each step lowers that for the job
-- that steps alone.
-- Assumes nothing.
use Rattle.std.specs.Prelude.{◌≡◌, ℕ, suc, ◌+◌, ◌-◌, ◌*◌, ◌≤◌, ◌<◌, Bool, ◌&&◌, length}
use Rattle.std.proofs.Math.Path.{refl, sym, ap, subst}
use Rattle.std.proofs.Common.{◌∙◌, arith, eq-eqb, ne_eqb}
use Rattle.std.proofs.Math.Logic.{inl, inr}
use Rattle.std.proofs.Math.Decide.{ℕ_discrete}
use Rattle.std.proofs.Math.Bool.{true, false}
use mathlib.Core.List.{List, [], ◌∷◌, map}
use Rattle.std.proofs.Math.Option.{Option, none, some, bind}
use Rattle.std.proofs.Math.Dec.{eqb}
use Rattle.taskfile.specs.declared.Table.{Table}
use Rattle.taskfile.specs.declared.Task.{Task}
use Rattle.taskfile.proofs.Laws.JudgingLaws.{body_length, tasks_length, task_of_entry, entry_shaped}
use Rattle.taskfile.specs.Code.JudgingParts.{Shaped}
use Rattle.std.specs.Prelude.{if◌then◌else◌}
use Rattle.notation.specs.Lists.{any, first_with, sum}
use Rattle.taskfile.specs.Tables.{no_task, tasks_of, task_of, body_of}
use Rattle.notation.specs.Laws.TestLaws.{and_both, or_neither, test_decided}
use Rattle.timing.specs.declared.Job.{Job}
use Rattle.timing.specs.Accepted.{Accepted}
use Rattle.timing.specs.Relations.{base, job_at, job_numbers}
use Rattle.machine.proofs.Laws.BodyLaws.{perform_onward}
use Rattle.machine.specs.declared.Effect.{Effect}
use Rattle.machine.specs.Instructions.{fresh}
use Rattle.order.specs.OrderBytes.{task_of_byte, value_of_byte}
use Rattle.order.specs.declared.Frame.{Frame}
use Rattle.order.specs.Code.Invariant.{has_begun, Invariant}
use Rattle.timing.proofs.Laws.JobFacts.{job_task}
use Rattle.order.specs.Orders.{Turn, start_of, turn_among, turn_of, next_of, step, run}
use Rattle.timing.proofs.Laws.JobNumberLaws.{first_job, jobs_at, jobs_length}
use Rattle.timing.specs.Code.IsAccepted.{IsAccepted}
use Rattle.order.specs.States.{State, initial, has_ended, is_active, may_start}
use Rattle.order.proofs.Laws.StepLaws.{GoodTurn, flag_here, start_says, map_some, good_turn, after_effect}
use Rattle.order.proofs.Laws.StepLaws.{performed_is, flagged_here, ended_other, unended_here, active_ended}
use Rattle.order.proofs.Laws.StepLaws.{active_goes, step_says, step_keeps, initial_invariant}
use Rattle.notation.specs.Laws.SumLaws.{sum_most, sum_falls}

-- the position of job x among active jobs: its next instruction, or 0 where it is not active
unfoldable pub position : List Frame → Job → ℕ
position [] x = 0
position (f ∷ fs) x = if eqb f.job.0 x.0 then f.local.next else position fs x

-- how many steps of job x may still come
unfoldable pub left_of : State → Job → ℕ
left_of s x = if has_ended s x then 0 else 16 - position s.active x

-- how many steps may still come
unfoldable pub left : Accepted → State → ℕ
left a s = sum (map (left_of s) (job_numbers a))

-- at most 16 steps a job are left
pub left_most : (a : Accepted) (s : State) → left a s ≤ 16 * length a.jobs
unfolding left left_of
left_most a s = omega (arith, sum_most (left_of s) most (job_numbers a), jobs_length a)
  where
    most : (x : Job) → left_of s x ≤ 16
    most x = elim (test_decided (has_ended s x)) [ inl e ↦ rw e (omega arith) | inr e ↦ rw e (omega arith) ]

-- ---- positions

-- a job that is not active stands at 0
idle_position : (fs : List Frame) (x : Job) → any (λ f. eqb f.job.0 x.0) fs ≡ false → position fs x ≡ 0
unfolding any position
idle_position [] x h = refl
idle_position (f ∷ fs) x h =
    let parts = or_neither (eqb f.job.0 x.0) _ h in
    rw parts.0 (idle_position fs x parts.1)

top_position : (f : Frame) (fs : List Frame) → position (f ∷ fs) f.job ≡ f.local.next
unfolding position
top_position f fs = rw (eq-eqb f.job.0 f.job.0 refl)

other_position : (f : Frame) (fs : List Frame) (y : Job) → (y.0 ≡ f.job.0 → ⊥) → position (f ∷ fs) y ≡ position fs y
unfolding position
other_position f fs y apart = rw (ne_eqb f.job.0 y.0 (λ e. apart (sym e)))

-- where the turn's job stands, and that the others stand where they did
record Placed (s : State) (turn : Turn) : Type 0 where
  here : position s.active turn.frame.job ≡ turn.frame.local.next
  others : (y : Job) → (y.0 ≡ turn.frame.job.0 → ⊥) → position turn.under y ≡ position s.active y

module _ (a : Accepted) (s : State) where
  start_placed : (i : ℕ) {turn : Turn} → start_of a s i ≡ some turn → Placed s turn
  unfolding start_of has_begun is_active fresh
  start_placed i e =
      let found = map_some _ (first_with (λ y. eqb (base a y) i && may_start a s y) (job_numbers a)) e in
      let job = first_job a (λ y. eqb (base a y) i && may_start a s y) found.1 in
      let start = start_says a s found.0 (and_both (eqb (base a found.0) i) _ job.1).1 in
      subst (Placed s) found.2
      (record {
        here = idle_position s.active found.0 (or_neither (has_ended s found.0) _ start.unbegun).1;
        others = λ y apart. refl;
      })

  placed_among : (i : ℕ) (active : List Frame) → s.active ≡ active → {turn : Turn}
      → turn_among a s i active ≡ some turn → Placed s turn
  unfolding turn_among
  placed_among i [] same e = start_placed i e
  placed_among i (f ∷ under) same {turn} e = go (eqb (base a f.job) i) e
    where
      go : (b : Bool) → (if b then some (record { frame = f; under = under }) else start_of a s i) ≡ some turn
          → Placed s turn
      go true h =
          let turns : record { frame = f; under = under } ≡ turn = cc in
          subst (Placed s) turns
          (record {
            here = ap (λ (fs : List Frame). position fs f.job) same ∙ top_position f under;
            others = λ y apart. sym (ap (λ (fs : List Frame). position fs y) same ∙ other_position f under y apart);
          })
      go false h = start_placed i h

  turn_placed : (i : ℕ) {turn : Turn} → turn_of a s i ≡ some turn → Placed s turn
  unfolding turn_of
  turn_placed i e = placed_among i s.active refl e

-- ---- what a step leaves

-- "1 to 16 instructions in a body"
pub body_short : {t : Table} → Shaped t → (i : Task) → i.0 < length (tasks_of t) → length (body_of (task_of t i)) ≤ 16
body_short {t} shaped i lt =
    let below : i.0 < t.tasks = omega (arith, tasks_length t shaped) in
    let entry = entry_shaped t shaped i.0 below no_task in
    rw (task_of_entry t shaped i.0 below no_task) (omega (arith, body_length _ entry, entry.within))

-- what is left of a job that has ended, and of one that has not
left_ended : (s : State) (x : Job) → has_ended s x ≡ true → left_of s x ≡ 0
unfolding left_of
left_ended s x e = rw e refl

left_unended : (s : State) (x : Job) → has_ended s x ≡ false → left_of s x ≡ 16 - position s.active x
unfolding left_of
left_unended s x e = rw e refl

module _ {a : Accepted} (ok : IsAccepted a) {s : State} (inv : Invariant a s) {turn : Turn} (good : GoodTurn a s turn)
    (placed : Placed s turn) (effect : Effect) where
  -- another job has as many steps left as before
  left_other : (y : Job) → (y.0 ≡ turn.frame.job.0 → ⊥) → left_of (after_effect s turn effect) y ≡ left_of s y
  unfolding left_of
  left_other y apart = rw (ended_other ok inv good effect y apart, stands)
    where
      stands : position (after_effect s turn effect).active y ≡ position s.active y
      stands = elim (test_decided effect.ended) [
        | inl ended ↦ ap (λ (fs : List Frame). position fs y) (active_ended ok inv good effect ended) ∙ placed.others y apart
        | inr goes ↦
            ap (λ (fs : List Frame). position fs y) (active_goes ok inv good effect goes)
            ∙ other_position _ turn.under y apart ∙ placed.others y apart
      ]

  module _ (short : turn.frame.local.next < 16) (onward : turn.frame.local.next < effect.local.next) where
    -- the job that steps has fewer
    left_here : left_of (after_effect s turn effect) turn.frame.job < left_of s turn.frame.job
    unfolding has_ended after_effect
    left_here =
        let x : Job = turn.frame.job in
        let was = left_unended s x good.running.unended in
        elim (test_decided effect.ended) [
          | inl ended ↦
              let flag = flag_here effect.ended x.0 s.ended (flagged_here ok inv good effect) in
              omega (arith, was, placed.here, left_ended (after_effect s turn effect) x (flag ∙ rw ended refl))
          | inr goes ↦
              let now = left_unended (after_effect s turn effect) x (unended_here ok inv good effect goes) in
              let stands =
              ap (λ (fs : List Frame). position fs x) (active_goes ok inv good effect goes)
              ∙ top_position (record { job = x; local = effect.local }) turn.under in
              omega (arith, was, placed.here, now, stands)
        ]

    left_kept : (y : Job) → left_of (after_effect s turn effect) y ≤ left_of s y
    left_kept y =
        elim (ℕ_discrete y.0 turn.frame.job.0) [
          | yes same ↦
              subst (λ (n : ℕ). left_of (after_effect s turn effect) (record { 0 = n }) ≤ left_of s (record { 0 = n })) (sym same)
              (omega (arith, left_here))
          | no apart ↦ omega (arith, left_other y apart)
        ]

    left_falls : left a (after_effect s turn effect) < left a s
    unfolding left
    left_falls =
        let x : Job = turn.frame.job in
        let isJob = good.running.job in
        sum_falls (left_of (after_effect s turn effect)) (left_of s) left_kept (job_numbers a) x.0 x (omega (arith, jobs_length a))
        (rw (jobs_at a x x isJob) left_here)

-- every step lowers what is left
pub step_left : {a : Accepted} → IsAccepted a → {s : State} → Invariant a s → (byte : ℕ) {after : State}
    → step a s byte ≡ some after → left a after < left a s
unfolding base
step_left {a} ok {s} inv byte {after} e =
    let made = step_says a s byte e in
    let turn : Turn = made.turn in
    let good = (good_turn ok inv (task_of_byte byte) made.due).0 in
    let known = job_task ok.is_timed turn.frame.job good.running.job in
    let short = body_short ok.is_made.shaped (job_at a turn.frame.job).task known in
    let onward = perform_onward (next_of a turn.frame) (value_of_byte byte) turn.frame.local s.store in
    subst (λ (t : State). left a t < left a s) (sym (performed_is a s (value_of_byte byte) turn) ∙ made.made)
    (left_falls ok inv good (turn_placed a s (task_of_byte byte) made.due) _ (omega (arith, good.running.inside)) onward.forward)

-- the bytes of an order and the steps left after them are no more than the steps left before
pub run_left : {a : Accepted} → IsAccepted a → {s : State} → Invariant a s → (bytes : List ℕ) {after : State}
    → run a s bytes ≡ some after → length bytes + left a after ≤ left a s
unfolding run bind
run_left {a} ok {s} inv [] {after} e = let same : s ≡ after = cc in omega (arith, ap (left a) same)
run_left {a} ok {s} inv (byte ∷ bytes) {after} e = go (step a s byte) refl e (λ next kept h. run_left ok kept bytes h)
  where
    go : (o : Option State) → step a s byte ≡ o → bind o (λ next. run a next bytes) ≡ some after
        → ((next : State) → Invariant a next → run a next bytes ≡ some after → length bytes + left a after ≤ left a
        next) → suc (length bytes) + left a after ≤ left a s
    go none one h later = absurd (let z : ◌≡◌ {A = ℕ} 0 1 = cc in omega arith)
    go (some next) one h later = omega (arith, step_left ok inv byte one, later next (step_keeps ok inv byte one) h)

-- every order has at most 16 steps a job
pub order_short : {a : Accepted} → IsAccepted a → (bytes : List ℕ) {s : State} → run a (initial a) bytes ≡ some s
    → length bytes ≤ 16 * length a.jobs
order_short {a} ok bytes e = omega (arith, run_left ok (initial_invariant a) bytes e, left_most a (initial a))
