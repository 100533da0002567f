-- Which table the lent arrays hold, which state a snapshot shows, and the first laws of both: the lent relations
-- between jobs are those of the table, and each task's first job not yet ended is where the snapshot says.
-- Assumes nothing.
use Rattle.std.specs.Prelude.{◌≡◌, true, false, ◌&&◌, get_or, take, ltb, eqb}
use Rattle.std.proofs.Math.Path.{refl, sym, ap}
use Rattle.std.proofs.Common.{◌∙◌, take-suc}
use Prim.Native.Nat.{ℕ, suc, ◌-◌, ◌≤◌, ◌<◌}
use Rattle.std.proofs.Math.Decide.{dec_lt}
use native.Mathlib.Omega.{arith}
use Rattle.std.proofs.Math.Bool.{not}
use mathlib.Core.List.{List, [], ◌∷◌, reverse, reverse-append}
use Rattle.std.proofs.Math.ListN.{length, length-reverse}
use Rattle.std.proofs.Math.Seq.{length-take-le}
use borrow.Author.Tests.{ltb-true, ltb-false, eqb-true, eq-eqb, ne_eqb, lt-ltb, le-ltb}
use Rattle.taskfile.specs.declared.Ceilings.{Ceilings}
use Rattle.notation.specs.Laws.TestLaws.{and_both, and_holds, and_first, and_second, and_last}
use Rattle.timing.specs.declared.Job.{Job}
use Rattle.timing.specs.Accepted.{Accepted}
use Rattle.timing.specs.Relations.{IsJob, base, before, may_preempt}
use Rattle.order.specs.declared.Frame.{Frame}
use Rattle.order_states.specs.Code.Snapshots.{Snapshot}
use Rattle.timing.proofs.Laws.JobFacts.{jobs_few}
use Rattle.order_states.specs.Code.SnapshotSteps.{owner_in, arrival_in, before_in, preempts_in, owned_by, stack_of, beyond, top_of}
use Rattle.timing.specs.Code.IsAccepted.{IsAccepted}
use Rattle.order.specs.States.{State, has_ended}
use Rattle.order_states.specs.Code.Shows.{LendsTable, LendsTimes, Shows}
use Rattle.timing.proofs.Laws.BaseLaws.{base_rises, base_small}

-- ---- the lent relations

module _ {a : Accepted} {program times : List ℕ} {locks : Ceilings} (lends : LendsTimes a program times locks) where
  pub before_lent : (x y : Job) → IsJob a x → IsJob a y → (x.0 ≡ y.0 → ⊥)
      → before_in program times x.0 y.0 ≡ before a x y
  unfolding before_in before
  before_lent x y is_x isY apart =
      rw (lends.latest x is_x, lends.arrival x is_x, lends.arrival y isY, lends.table.owner x is_x, lends.table.owner y isY)
      (sym (and_second (not (eqb x.0 y.0)) _ (ap not (ne_eqb x.0 y.0 apart))))

  pub preempts_lent : (y x : Job) → IsJob a y → IsJob a x → preempts_in program times y.0 x.0 ≡ may_preempt a y x
  unfolding preempts_in may_preempt
  preempts_lent y x isY is_x = rw (lends.latest x is_x, lends.arrival x is_x, lends.arrival y isY, lends.table.owner x is_x, lends.table.owner y isY) refl

-- a job that did not arrive later preempts nothing
pub preempts_early : (program times : List ℕ) (y x : ℕ) → arrival_in times y ≤ arrival_in times x
    → preempts_in program times y x ≡ false
unfolding preempts_in
preempts_early program times y x h =
    and_first (ltb (owner_in program x) (owner_in program y) && ltb (arrival_in times x) (arrival_in times y)) _
    (and_last (ltb (owner_in program x) (owner_in program y)) _ (le-ltb _ _ h))

-- ---- jobs and their tasks

module _ {a : Accepted} {program : List ℕ} {locks : Ceilings} (lends : LendsTable a program locks) where
  -- an owned number is a job of that task
  pub owned_shown : (k x : ℕ) → k < 8 → owned_by program k x ≡ true
      → IsJob a (record { 0 = x }) × (base a (record { 0 = x }) ≡ k)
  unfolding owned_by
  owned_shown k x lt h =
      let tests = and_both (ltb x 32) _ h in
      let owner = eqb-true _ _ tests.1 in
      elim (dec_lt x (length a.jobs)) [
        | yes isJob ↦ (isJob, sym (lends.owner (record { 0 = x }) isJob) ∙ owner)
        | no past ↦ absurd (omega (arith, lends.no_owner x (omega arith) (ltb-true _ _ tests.0)))
      ]

  pub job_owned : IsAccepted a → (x : Job) → IsJob a x → owned_by program (base a x) x.0 ≡ true
  unfolding owned_by
  job_owned ok x isJob =
      and_holds (ltb x.0 32) _ (lt-ltb x.0 32 (omega (arith, jobs_few ok.is_timed))) (eq-eqb _ _ (lends.owner x isJob))

-- ---- the active jobs

module _ {a : Accepted} {p : Snapshot} {s : State} (shows : Shows a p s) where
  -- the active job started last, and those under it
  pub active_top : 0 < p.depth → s.active ≡ top_of p ∷ reverse (take (p.depth - 1) p.stack)
  unfolding stack_of top_of
  active_top lt =
      let m = p.depth - 1 in
      let deeper : p.depth ≡ suc m = omega arith in
      shows.active
      ∙ ap (λ (n : ℕ). reverse (take n p.stack)) deeper
      ∙ ap reverse (take-suc p.stack m beyond (omega (arith, shows.depth, shows.full)))
      ∙ reverse-append (take m p.stack) (get_or p.stack m beyond ∷ [])

  pub no_active : p.depth ≡ 0 → s.active ≡ []
  unfolding stack_of
  no_active none-there = shows.active ∙ ap (λ (n : ℕ). reverse (take n p.stack)) none-there

  -- the depth is the number of active jobs
  pub depth_active : length s.active ≡ p.depth
  unfolding stack_of
  depth_active = ap (λ (fs : List Frame). length fs) shows.active ∙ length-reverse (take p.depth p.stack) ∙
      length-take-le p.depth p.stack (omega (arith, shows.depth, shows.full))

-- ---- the first job of a task not yet ended

module _ {a : Accepted} (ok : IsAccepted a) {p : Snapshot} {s : State} (shows : Shows a p s) where
  abbrev pub unended : ℕ → Job
  unended k = record { 0 = get_or p.unended k 0 }

  -- a job not yet ended is not below its task's first such job, which is of the same task
  pub first_unended : (x : Job) → IsJob a x → has_ended s x ≡ false
      → ((unended (base a x)).0 ≤ x.0) × IsJob a (unended (base a x)) × (base a (unended (base a x)) ≡ base a x)
  first_unended x isJob h =
      let u = unended (base a x) in
      let le : u.0 ≤ x.0 = omega (arith, ltb-false x.0 u.0 (sym (shows.ended x isJob) ∙ h)) in
      let isU : IsJob a u = omega arith in
      let high : base a u < base a x → ⊥ = λ low. omega (arith, shows.lowest (base a x) u (base_small ok x isJob) isU low) in
      (le, isU, omega (arith, base_rises ok u x le isJob))

  -- its task's first job not yet ended has not ended
  pub first_open : (k : ℕ) → IsJob a (unended k) → base a (unended k) ≡ k → has_ended s (unended k) ≡ true → ⊥
  first_open k isJob same h =
      omega (
        arith,
        ltb-true (get_or p.unended k 0) (get_or p.unended k 0)
            (sym (shows.ended (unended k) isJob ∙ ap (λ (n : ℕ). ltb (get_or p.unended k 0) (get_or p.unended n 0)) same) ∙ h),
      )
