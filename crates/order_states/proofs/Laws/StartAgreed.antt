-- The start on a snapshot is the start of `Orders`: where the short test on the snapshot holds for a task, its first job
-- not yet ended is the one that may start, and where it fails none may. The short test asks the wait table and the
-- running job's present priority alone; the invariant and the laws of before and may preempt give the rest.
-- Assumes nothing.
use Rattle.std.specs.Prelude.{◌≡◌, ℕ, zero, suc, ◌-◌, ◌≤◌, ◌<◌, true, ◌&&◌, ◌||◌, take}
use Rattle.std.proofs.Math.Path.{refl, sym, ap}
use Rattle.std.proofs.Common.{subst, ◌∙◌, arith}
use Rattle.std.proofs.Math.Logic.{inl, inr}
use Rattle.std.proofs.Math.Decide.{dec_lt}
use Rattle.std.proofs.Math.Bool.{false, not}
use mathlib.Core.List.{List, [], ◌∷◌, reverse}
use Rattle.std.proofs.Math.Option.{none, some, map}
use Rattle.std.proofs.Math.ListN.{length, get_or}
use Rattle.std.proofs.Math.Dec.{ltb, eqb}
use borrow.Author.Tests.{ltb-true, ltb-false, eqb-true, eq-eqb, ne_eqb, lt-ltb, le-ltb}
use Rattle.taskfile.specs.declared.Ceilings.{Ceilings}
use Rattle.notation.specs.Laws.ListLaws.{get_or_up_to}
use Rattle.notation.specs.Lists.{all, from, up_to}
use Rattle.notation.specs.Laws.PairLaws.{every_at, every_imp}
use Rattle.notation.specs.Ordered.{Every, Ordered}
use Rattle.notation.specs.Laws.TestLaws.{and_both, and_holds, or_right, or_neither, test_decided, not_both, holds_implied}
use Rattle.timing.specs.declared.Job.{Job}
use Rattle.timing.specs.Accepted.{Accepted}
use Rattle.timing.proofs.Laws.RelationLaws.{jobs_related, preempt_says}
use Rattle.timing.specs.Relations.{IsJob, base, before, may_preempt, job_numbers}
use Rattle.machine.specs.Instructions.{fresh}
use Rattle.machine.proofs.Laws.HeldLaws.{priority_base}
use Rattle.order.specs.declared.Frame.{Frame}
use Rattle.order_states.specs.Code.Snapshots.{Snapshot}
use Rattle.order.specs.Code.Invariant.{Over, IsRunning, has_begun, Invariant}
use Rattle.timing.proofs.Laws.JobFacts.{jobs_few, same_task}
use Rattle.order.specs.Orders.{start_of}
use Rattle.notation.specs.Laws.QuantifierLaws.{at_all, at_any, none_at, at_none}
use Rattle.timing.proofs.Laws.JobNumberLaws.{jobs_all, only_job, no_job_lem}
use Rattle.order_states.proofs.Laws.ShowLaws.{active_top, no_active, depth_active, unended, owned_shown, job_owned, first_unended, first_open}
use Rattle.order_states.proofs.Laws.StartLaws.{starts_says, starts_hold, level_flat, level_over, over_level}
use Rattle.timing.proofs.Laws.BaseLaws.{base_rises, base_small}
use Rattle.order_states.specs.Code.Shows.{Lends, Shows}
use Rattle.order_states.specs.Code.SnapshotSteps.{owned_by, wait_in, waits_for, must_wait, bar_in, level_in, no_frame, top_of, starts_in}
use Rattle.timing.specs.Code.IsAccepted.{IsAccepted}
use Rattle.order.specs.States.{State, has_ended, is_active, present_priority, may_start}
use Rattle.order.proofs.Laws.StepLaws.{start_says}

-- ---- over the running job is over all

-- an active job's base is not above its present priority
base_present : (a : Accepted) (f : Frame) → base a f.job ≤ present_priority a f
unfolding present_priority
base_present a f = priority_base _ (base a f.job) f.local.held

-- what is above the present priority of the active job started last is above that of every one
pub above_all : (a : Accepted) (n : ℕ) (f : Frame) (fs : List Frame) → Ordered (Over a) (f ∷ fs)
    → present_priority a f < n → Every (λ g. present_priority a g < n) (f ∷ fs)
above_all a n f fs stacked lt = (
  lt,
  every_imp (Over a f) (λ g. present_priority a g < n) (λ g over. omega (arith, over.above, base_present a f)) fs stacked.0,
)

-- bases rise along the active jobs, so there are no more of them than bases
deep : (a : Accepted) (fs : List Frame) → Ordered (Over a) fs → (n : ℕ) → Every (λ f. base a f.job < n) fs
    → length fs ≤ n
deep a [] stacked n below = omega arith
deep a (f ∷ fs) stacked n below =
    omega (
      arith,
      below.0,
      deep a fs stacked.1 (base a f.job)
          (every_imp (Over a f) (λ g. base a g.job < base a f.job) (λ g over. (preempt_says a f.job g.job over.preempts).higher) fs stacked.0),
    )

every_preempted : (a : Accepted) (y : Job) (fs : List Frame) → all (λ f. may_preempt a y f.job) fs ≡ true
    → Every (λ f. base a f.job < base a y) fs
unfolding all
every_preempted a y [] h = tt
every_preempted a y (f ∷ fs) h =
    let parts = and_both (may_preempt a y f.job) _ h in
    ((preempt_says a y f.job parts.0).higher, every_preempted a y fs parts.1)

module _ {a : Accepted} (ok : IsAccepted a) {program waits : List ℕ} {locks : Ceilings} (lends : Lends a program waits locks)
    {p : Snapshot} {s : State} (inv : Invariant a s) (shows : Shows a p s) where
  -- ---- the wait table

  module _ (y : Job) (isY : IsJob a y) where
    -- who need not wait comes after no job that has not ended
    pub wait_all : must_wait waits p.unended y.0 ≡ false → (x : Job) → IsJob a x → before a x y ≡ true
        → has_ended s x ≡ true
    unfolding must_wait waits_for up_to from
    wait_all free x is_x h =
        let k = base a x in
        let small = base_small ok x is_x in
        let passed : waits_for waits p.unended y.0 k ≡ false =
        ap (waits_for waits p.unended y.0) (sym (get_or_up_to 8 k 0 small)) ∙ none_at (waits_for waits p.unended y.0) (up_to 8) k 0 free small in
        let below = ltb-true x.0 (wait_in waits y.0 k) (sym (lends.preceding x y is_x isY) ∙ h) in
        shows.ended x is_x
        ∙ lt-ltb x.0 (get_or p.unended k 0) (omega (arith, below, ltb-false (get_or p.unended k 0) (wait_in waits y.0 k) passed))

    -- a job of task k not yet ended that comes before y
    waited_open : (k : ℕ) → k < 8 → get_or p.unended k 0 < wait_in waits y.0 k
        → (x : Job) × IsJob a x × (before a x y ≡ true) × (has_ended s x ≡ false)
    waited_open k small lt = go (wait_in waits y.0 k) refl lt
      where
        go : (n : ℕ) → wait_in waits y.0 k ≡ n → get_or p.unended k 0 < n
            → (x : Job) × IsJob a x × (before a x y ≡ true) × (has_ended s x ≡ false)
        go zero e lower = absurd (omega arith)
        go (suc n) e lower =
            let last = lends.waited y k n isY small e in
            let x : Job = record { 0 = n } in
            let there : wait_in waits y.0 (base a x) ≡ suc n = ap (wait_in waits y.0) last.1 ∙ e in
            let open-there : get_or p.unended (base a x) 0 ≡ get_or p.unended k 0 = ap (λ (i : ℕ). get_or p.unended i 0) last.1 in (
              x,
              last.0,
              lends.preceding x y last.0 isY ∙ lt-ltb n (wait_in waits y.0 (base a x)) (omega (arith, there)),
              shows.ended x last.0 ∙ le-ltb n (get_or p.unended (base a x) 0) (omega (arith, open-there)),
            )

    -- and who comes after none need not wait
    pub no_wait : ((x : Job) → IsJob a x → before a x y ≡ true → has_ended s x ≡ true)
        → must_wait waits p.unended y.0 ≡ false
    unfolding must_wait waits_for up_to from
    no_wait preceded =
        at_none (waits_for waits p.unended y.0) (up_to 8) 0
        (λ k lt. ap (waits_for waits p.unended y.0) (get_or_up_to 8 k 0 lt) ∙ none k lt)
      where
        none : (k : ℕ) → k < 8 → waits_for waits p.unended y.0 k ≡ false
        none k lt = elim (dec_lt (get_or p.unended k 0) (wait_in waits y.0 k)) [
          | yes late ↦ (let w = waited_open k lt late in absurd (not_both _ (preceded w.0 w.1 w.2) w.3))
          | no on-time ↦ le-ltb (get_or p.unended k 0) (wait_in waits y.0 k) (omega arith)
        ]

  -- ---- the running job

  -- what stands at the top is the running job's present priority
  bar_present : 0 < p.depth → bar_in program locks p ≡ present_priority a (top_of p)
  unfolding present_priority bar_in
  bar_present lt =
      let is_top = (subst (Every (IsRunning a s)) (active_top shows lt) inv.running).0.job in
      rw (lends.table.ceilings, lends.table.owner (top_of p).job is_top) refl

  -- a base that is not below the level is above every active job's present priority
  above_active : (n : ℕ) → n < 8 → level_in program locks p ≤ n → Every (λ f. present_priority a f < n) s.active
  above_active n small le = elim (dec_lt 0 p.depth) [
    | yes lt ↦
        let over = level_over program locks p (λ flat. omega arith) n small le in
        subst (Every (λ f. present_priority a f < n)) (sym (active_top shows lt))
        (above_all a n (top_of p) (reverse (take (p.depth - 1) p.stack))
        (subst (Ordered (Over a)) (active_top shows lt) inv.stacked) (omega (arith, over, bar_present lt)))
    | no flat ↦ subst (Every (λ f. present_priority a f < n)) (sym (no_active shows (omega arith))) tt
  ]

  -- and the other way round
  active_above : (n : ℕ) → n < 8 → all (λ f. ltb (present_priority a f) n) s.active ≡ true
      → level_in program locks p ≤ n
  unfolding all
  active_above n small h = elim (dec_lt 0 p.depth) [
    | yes lt ↦
        let under = reverse (take (p.depth - 1) p.stack) in
        let top = and_both (ltb (present_priority a (top_of p)) n) (all (λ f. ltb (present_priority a f) n) under)
        (sym (ap (all (λ f. ltb (present_priority a f) n)) (active_top shows lt)) ∙ h) in
        let is_top = (subst (Every (IsRunning a s)) (active_top shows lt) inv.running).0.job in
        over_level program locks p (λ flat. omega arith) (omega (arith, is_top, jobs_few ok.is_timed)) n small
        (omega (arith, ltb-true (present_priority a (top_of p)) n top.0, bar_present lt))
    | no flat ↦ omega (arith, level_flat program locks p (omega arith))
  ]

  -- ---- may preempt

  abbrev at : ℕ → Frame
  at k = get_or s.active k no_frame

  module _ (y : Job) (isY : IsJob a y) (unfinished : has_ended s y ≡ false)
      (preceded : (x : Job) → IsJob a x → before a x y ≡ true → has_ended s x ≡ true)
      (above : Every (λ f. present_priority a f < base a y) s.active) where
    higher : (k : ℕ) → k < length s.active → base a (at k).job < base a y
    higher k lt = omega (arith, every_at (λ f. present_priority a f < base a y) s.active k no_frame above lt, base_present a (at k))

    begun : (k : ℕ) → k < length s.active → has_begun s (at k).job ≡ true
    unfolding has_begun is_active
    begun k lt =
        or_right (has_ended s (at k).job) _ (at_any (λ g. eqb g.job.0 (at k).job.0) s.active k no_frame lt (eq-eqb (at k).job.0 (at k).job.0 refl))

    -- of an active job and one of a higher base, neither of which comes before the other, the second may preempt
    goes : (k : ℕ) → k < length s.active → may_preempt a y (at k).job ≡ true
    goes k lt =
        let x = (at k).job in
        let runs = every_at (IsRunning a s) s.active k no_frame inv.running lt in
        let lower : x.0 < y.0 =
        elim (dec_lt x.0 y.0) [
          | yes less ↦ less
          | no high ↦ absurd (omega (arith, base_rises ok y x (omega arith) runs.job, higher k lt))
        ] in
        elim (jobs_related ok.is_timed x y lower isY) [
          | inl first ↦ absurd (not_both _ (preceded x runs.job first) runs.unended)
          | inr other ↦ elim other [
            | inl second ↦ absurd (not_both _ (inv.preceded y x isY runs.job second (begun k lt)) unfinished)
            | inr may ↦ may
          ]
        ]

    all_preempted : all (λ f. may_preempt a y f.job) s.active ≡ true
    all_preempted = at_all (λ f. may_preempt a y f.job) s.active no_frame goes

    all_above : all (λ f. ltb (present_priority a f) (base a y)) s.active ≡ true
    all_above =
        at_all (λ f. ltb (present_priority a f) (base a y)) s.active no_frame
        (λ k lt. lt-ltb _ _ (every_at (λ f. present_priority a f < base a y) s.active k no_frame above lt))

    -- what is of a higher base than every active job is none of them
    not_active : is_active s y ≡ false
    unfolding is_active
    not_active =
        at_none (λ f. eqb f.job.0 y.0) s.active no_frame
        (λ k lt. ne_eqb _ _ (λ same. (let equal : base a (at k).job ≡ base a y =
        ap (λ (n : ℕ). base a (record { 0 = n })) same in omega (arith, higher k lt))))

    -- so it may start
    may_start_lem : may_start a s y ≡ true
    unfolding may_start
    may_start_lem =
        and_holds (not (has_ended s y || is_active s y) && all (λ x. not (before a x y) || has_ended s x) (job_numbers a)
        && all (λ f. may_preempt a y f.job) s.active) _
        (and_holds (not (has_ended s y || is_active s y) && all (λ x. not (before a x y) || has_ended s x) (job_numbers a)) _
        (and_holds (not (has_ended s y || is_active s y)) _ (rw (unfinished, not_active) refl)
        (jobs_all a (λ x. not (before a x y) || has_ended s x) (λ x is_x. holds_implied (before a x y) _ (preceded x is_x))))
        all_preempted) all_above

  -- ---- the two tests agree

  abbrev first : ℕ → Job
  first k = unended ok shows k

  -- where the short test holds, the task's first job not yet ended may start
  pub start_found : (i : ℕ) → starts_in program waits locks p i ≡ true
      → IsJob a (first i) × (base a (first i) ≡ i) × (may_start a s (first i) ≡ true)
  start_found i h =
      let y = first i in
      let start = starts_says program waits (level_in program locks p) p i h in
      let owned = owned_shown lends.table i y.0 start.task start.owned in
      let unfinished : has_ended s y ≡ false =
      elim (test_decided (has_ended s y)) [ inl e ↦ absurd (first_open ok shows i owned.0 owned.1 e) | inr e ↦ e ] in (
        owned.0,
        owned.1,
        may_start_lem y owned.0 unfinished (wait_all y owned.0 start.free)
            (above_active (base a y) (omega (arith, start.task, owned.1)) (omega (arith, start.above, owned.1))),
      )

  -- where a job of task i may start, it is that one, and the short test holds
  pub found_start : (i : ℕ) (y : Job) → IsJob a y → base a y ≡ i → may_start a s y ≡ true
      → ((first i).0 ≡ y.0) × (starts_in program waits locks p i ≡ true)
  unfolding has_begun
  found_start i y isY task h =
      let start = start_says a s y h in
      let small : i < 8 = omega (arith, base_small ok y isY) in
      let u = first (base a y) in
      let open-first = first_unended ok shows y isY (or_neither (has_ended s y) _ start.unbegun).0 in
      let place : u.0 ≡ (first i).0 = ap (λ (k : ℕ). get_or p.unended k 0) task in
      let not-below : u.0 < y.0 → ⊥ = λ below.
      first_open ok shows (base a y) open-first.1 open-first.2
      (start.preceded u open-first.1 (same_task ok.is_timed u y below isY open-first.2)) in
      let same : (first i).0 ≡ y.0 = omega (arith, open-first.0) in
      let bases : length s.active ≤ base a y =
      deep a s.active inv.stacked (base a y) (every_preempted a y s.active start.preempts) in (
        same,
        starts_hold program waits (level_in program locks p) p i
            (record {
              task = small;
              room = omega (arith, depth_active shows);
              owned = ap (owned_by program i) same ∙ ap (λ (k : ℕ). owned_by program k y.0) (sym task) ∙ job_owned lends.table ok y isY;
              free = ap (must_wait waits p.unended) same ∙ no_wait y isY start.preceded;
              above = omega (arith, active_above (base a y) (base_small ok y isY) start.above);
            }),
      )

  -- so a start is the short one
  pub start_is : (i : ℕ) → starts_in program waits locks p i ≡ true
      → start_of a s i ≡ some (record { frame = record { job = first i; local = fresh }; under = s.active })
  unfolding start_of
  start_is i h =
      let found = start_found i h in
      ap (map _)
      (only_job a (λ y. eqb (base a y) i && may_start a s y) (first i) found.0
      (and_holds (eqb (base a (first i)) i) _ (eq-eqb _ _ found.1) found.2)
      (λ x is_x t. (let tests = and_both (eqb (base a x) i) _ t in sym (found_start i x is_x (eqb-true _ _ tests.0) tests.1).0)))

  pub start_agreed_none : (i : ℕ) → starts_in program waits locks p i ≡ false → start_of a s i ≡ none
  unfolding start_of
  start_agreed_none i h = ap (map _) (no_job_lem a (λ y. eqb (base a y) i && may_start a s y) refused)
    where
      refused : (x : Job) → IsJob a x → (eqb (base a x) i && may_start a s x) ≡ false
      refused x is_x = elim (test_decided (eqb (base a x) i && may_start a s x)) [
        | inl t ↦ (let tests = and_both (eqb (base a x) i) _ t in absurd (not_both _ (found_start i x is_x (eqb-true _ _ tests.0) tests.1).1 h))
        | inr f ↦ f
      ]
