-- Laws of the turn and the step on a snapshot, a case of their definitions each: what the tests that the code has
-- made come to, and what a turn that is due says of its numbers.
-- Assumes nothing.
use Rattle.order.specs.OrderBytes.{task_of_byte, value_of_byte}
use Rattle.std.specs.Prelude.{◌≡◌, ℕ, ◌≤◌, ◌<◌, Bool, true, false, ◌&&◌, List, get_or, Option, Some, None, IfSome}
use Rattle.std.proofs.Math.Path.{refl, sym, ap, subst}
use Rattle.std.proofs.Common.{◌∙◌}
use Rattle.std.proofs.Math.Logic.{inl, inr}
use native.Mathlib.Omega.{arith}
use Rattle.std.proofs.Math.Dec.{ltb}
use borrow.Author.Tests.{ltb-true, lt-ltb, le-ltb}
use Rattle.taskfile.specs.declared.Ceilings.{Ceilings}
use Rattle.notation.specs.Laws.TestLaws.{and_both, and_holds, and_first, and_second, and_last, test_decided}
use Rattle.order_states.specs.declared.Due.{Due}
use Rattle.order_states.specs.Code.Snapshots.{Snapshot, Stepped}
use Rattle.order_states.proofs.Laws.StartLaws.{owned_job, starts_says}
use Rattle.order_states.specs.Code.SnapshotSteps.{owned_by, level_in, starts_in, start_turn, start_in, top_of}
use Rattle.order_states.specs.Code.SnapshotSteps.{runs_in, top_turn, turn_in, step_with_in, due_step, step_in}

-- ---- who runs

module _ (program : List ℕ) (p : Snapshot) (i : ℕ) where
  pub runs_high : 8 ≤ i → false ≡ runs_in program p i
  unfolding runs_in
  runs_high h = sym (and_first (ltb i 8 && ltb 0 p.depth) _ (and_first (ltb i 8) _ (le-ltb i 8 h)))

  pub runs_flat : p.depth ≡ 0 → false ≡ runs_in program p i
  unfolding runs_in
  runs_flat h = sym (and_first (ltb i 8 && ltb 0 p.depth) _ (and_last (ltb i 8) _ (le-ltb 0 p.depth (omega arith))))

  pub runs_top : i < 8 → (p.depth ≡ 0 → ⊥) → {b : Bool} → b ≡ owned_by program i (top_of p).job.0
      → b ≡ runs_in program p i
  unfolding runs_in
  runs_top small deep e =
      e ∙ sym (and_second (ltb i 8 && ltb 0 p.depth) _ (and_holds (ltb i 8) _ (lt-ltb i 8 small) (lt-ltb 0 p.depth (omega arith))))

  -- who runs is active, and a job of one of the eight tasks
  pub runs_says : runs_in program p i ≡ true → (i < 8) × (0 < p.depth) × ((top_of p).job.0 < 32)
  unfolding runs_in
  runs_says h =
      let tests = and_both (ltb i 8 && ltb 0 p.depth) _ h in
      let front = and_both (ltb i 8) _ tests.0 in
      (ltb-true i 8 front.0, ltb-true 0 p.depth front.1, owned_job program i _ tests.1)

  pub runs_deep : {b : Bool} → b ≡ runs_in program p i → b ≡ true → 1 ≤ p.depth
  runs_deep e h = (runs_says (sym e ∙ h)).1

-- ---- the turn

module _ (program waits : List ℕ) (locks : Ceilings) (p : Snapshot) (i : ℕ) where
  -- who starts has room, and is a job of one of the eight tasks
  starts_bounds : starts_in program waits locks p i ≡ true → (i < 8) × (p.depth < 8) × (get_or p.unended i 0 < 32)
  starts_bounds h =
      let start = starts_says program waits (level_in program locks p) p i h in
      (start.task, start.room, owned_job program i _ start.owned)

  abbrev Bounded : Due → Type 0
  Bounded d = (i < 8) × (d.under < 8) × (d.frame.job.0 < 32)

  start_bounded : IfSome (start_in program waits locks p i) Bounded
  unfolding start_in start_turn
  start_bounded =
      elim (test_decided (starts_in program waits locks p i)) [
        | inl e ↦
            let is : start_in program waits locks p i ≡ Some (start_turn p i) = rw e refl in
            subst (λ o. IfSome o Bounded) (sym is) (starts_bounds e)
        | inr e ↦
            let is : start_in program waits locks p i ≡ None = rw e refl in
            subst (λ o. IfSome o Bounded) (sym is) tt
      ]

  turn_bounded : p.depth ≤ 8 → IfSome (turn_in program waits locks p i) Bounded
  unfolding turn_in top_turn
  turn_bounded le =
      elim (test_decided (runs_in program p i)) [
        | inl e ↦
            let says = runs_says program p i e in
            let is : turn_in program waits locks p i ≡ Some (top_turn p) = rw e refl in
            subst (λ o. IfSome o Bounded) (sym is) (says.0, omega arith, says.2)
        | inr e ↦
            let is : turn_in program waits locks p i ≡ start_in program waits locks p i = rw e refl in
            subst (λ o. IfSome o Bounded) (sym is) start_bounded
      ]

  module _ {d : Due} (is : Some d ≡ turn_in program waits locks p i) (le : p.depth ≤ 8) where
    -- a turn that is due is one of the eight tasks, and its numbers have a place in the arrays
    pub due_task : i < 8
    due_task = (subst (λ o. IfSome o Bounded) (sym is) (turn_bounded le)).0

    pub due_bounds : (d.under < 8) × (d.frame.job.0 < 32)
    due_bounds = let says = subst (λ o. IfSome o Bounded) (sym is) (turn_bounded le) in (says.1, says.2)

  abbrev pub Placed : Option Due → Type 0
  Placed o = IfSome o (λ d. (d.under < 8) × (d.frame.job.0 < 32))

  -- so a turn meets what its maker says of it
  pub turn_made : (o : Option Due) → o ≡ turn_in program waits locks p i → p.depth ≤ 8
      → (o ≡ turn_in program waits locks p i) × Placed o
  turn_made None is le = (is, tt)
  turn_made (Some d) is le = (is, due_bounds is le)

  pub turn_runs : {b : Bool} → b ≡ runs_in program p i → b ≡ true
      → Some (top_turn p) ≡ turn_in program waits locks p i
  unfolding turn_in
  turn_runs e h = rw (sym e ∙ h) refl

  pub turn_starts : {b : Bool} → b ≡ runs_in program p i → b ≡ false → {o : Option Due} → o ≡ start_in program waits locks p i
      → o ≡ turn_in program waits locks p i
  unfolding turn_in
  turn_starts e h is = rw (sym e ∙ h) is

-- ---- the step

module _ (program waits : List ℕ) (locks : Ceilings) (p : Snapshot) (byte : ℕ) where
  step_of : {o : Option Due} → o ≡ turn_in program waits locks p (task_of_byte byte)
      → due_step program p (task_of_byte byte) (value_of_byte byte) o ≡ step_in program waits locks p byte
  unfolding step_in
  step_of is = ap (due_step program p (task_of_byte byte) (value_of_byte byte)) is

  -- where nobody is due, there is no step
  pub step_none : None ≡ turn_in program waits locks p (task_of_byte byte)
      → record { allowed = false; state = p } ≡ step_in program waits locks p byte
  unfolding due_step
  step_none is = step_of is

  -- else the job that is due steps
  pub step_due : {d : Due} → Some d ≡ turn_in program waits locks p (task_of_byte byte) → {r : Stepped}
      → r ≡ step_with_in program p d.frame d.under (task_of_byte byte) (value_of_byte byte) → r ≡ step_in program waits locks p byte
  unfolding due_step
  step_due is made = made ∙ step_of is
