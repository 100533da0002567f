-- Laws of a task's turn, by the running job's task and the level: the running job's task has that job's turn, another
-- below the level none, and any other a start or none.
-- Assumes nothing.
use Rattle.std.specs.Prelude.{Option, Some, None}
use Rattle.std.specs.Prelude.{◌≡◌, ℕ, ◌≤◌, ◌<◌, Bool, true, false, ◌&&◌, List}
use Rattle.std.proofs.Math.Path.{refl, ap}
use Rattle.std.proofs.Common.{sym, ◌∙◌, arith}
use Rattle.std.proofs.Math.Logic.{inl, inr}
use Rattle.std.proofs.Math.Dec.{ltb}
use Rattle.std.proofs.Math.ListN.{take}
use borrow.Author.Tests.{ltb-true, eqb-true, eq-eqb, lt-ltb}
use Rattle.taskfile.specs.declared.Ceilings.{Ceilings}
use Rattle.notation.specs.Laws.TestLaws.{and_both, and_holds, test_decided}
use Rattle.machine.proofs.Laws.HeldLaws.{priority_base}
use Rattle.order_states.specs.declared.Due.{Due}
use Rattle.order_states.specs.Code.Snapshots.{Snapshot}
use Rattle.order_states.specs.Code.SnapshotSteps.{owner_in, owned_by, bar_in, level_in, starts_above, starts_in}
use Rattle.order_states.specs.Code.SnapshotSteps.{start_turn, start_in, top_of, runs_in, top_turn, turn_in}
use Rattle.order_states.proofs.Laws.StartLaws as start
use Rattle.order_states.proofs.Laws.TurnLaws.{runs_says, turn_runs, turn_starts}
use Rattle.walk_moves.specs.Code.MoveParts.{running_task}

-- ---- the running job's task

module _ (program : List ℕ) (p : Snapshot) where
  -- no job is active, or none that has a task
  pub running_none : (ltb 0 p.depth && ltb (top_of p).job.0 32) ≡ false → 8 ≡ running_task program p
  unfolding running_task
  running_none h = rw h refl

  pub running_some : 0 < p.depth → (top_of p).job.0 < 32 → owner_in program (top_of p).job.0 ≡ running_task program p
  unfolding running_task
  running_some deep job = rw (lt-ltb 0 p.depth deep, lt-ltb (top_of p).job.0 32 job) refl

  -- a task of the eight that it is has a job that runs
  running_says : running_task program p < 8
      → (0 < p.depth) × ((top_of p).job.0 < 32) × (owner_in program (top_of p).job.0 ≡ running_task program p)
  running_says small = elim (test_decided (ltb 0 p.depth && ltb (top_of p).job.0 32)) [
    | inl h ↦
        let parts = and_both (ltb 0 p.depth) _ h in
        let deep = ltb-true 0 p.depth parts.0 in
        let job = ltb-true (top_of p).job.0 32 parts.1 in
        (deep, job, running_some deep job)
    | inr h ↦ absurd (omega (arith, running_none h))
  ]

-- ---- whose turn it is

module _ (program : List ℕ) (p : Snapshot) (i : ℕ) (small : i < 8) {top : ℕ} (is : top ≡ running_task program p) where
  pub top_deep : i ≡ top → 1 ≤ p.depth
  top_deep here = (running_says program p (omega (arith, is))).0

  runs_here : i ≡ top → runs_in program p i ≡ true
  unfolding runs_in owned_by
  runs_here here =
      let says = running_says program p (omega (arith, is)) in
      and_holds (ltb i 8 && ltb 0 p.depth) _ (and_holds (ltb i 8) _ (lt-ltb i 8 small) (lt-ltb 0 p.depth says.0))
      (and_holds (ltb (top_of p).job.0 32) _ (lt-ltb (top_of p).job.0 32 says.1)
      (eq-eqb (owner_in program (top_of p).job.0) i (omega (arith, says.2, is))))

  runs_not : (i ≡ top → ⊥) → runs_in program p i ≡ false
  unfolding runs_in owned_by
  runs_not other = elim (test_decided (runs_in program p i)) [
    | inl h ↦
        let says = runs_says program p i h in
        let parts = and_both (ltb i 8 && ltb 0 p.depth) _ h in
        let owner : owner_in program (top_of p).job.0 ≡ i = eqb-true _ _ (and_both (ltb (top_of p).job.0 32) _ parts.1).1 in
        absurd (other (omega (arith, owner, running_some program p says.1 says.2, is)))
    | inr h ↦ h
  ]

  module _ (waits : List ℕ) (locks : Ceilings) where
    pub turn_top : i ≡ top → Some (top_turn p) ≡ turn_in program waits locks p i
    turn_top here = turn_runs program waits locks p i (sym (runs_here here)) refl

    start_here : (i ≡ top → ⊥) → start_in program waits locks p i ≡ turn_in program waits locks p i
    start_here other = turn_starts program waits locks p i (sym (runs_not other)) refl refl

    idle : (i ≡ top → ⊥) → starts_in program waits locks p i ≡ false → None ≡ turn_in program waits locks p i
    idle other none = sym (start.start_none program waits locks p i none) ∙ start_here other

    module _ (other : i ≡ top → ⊥) {low : ℕ} (level : low ≡ level_in program locks p) {b : Bool} (starts : b ≡ starts_above program waits low p i) where
      starts_at : starts_in program waits locks p i ≡ b
      starts_at = ap (λ (n : ℕ). starts_above program waits n p i) (sym level) ∙ sym starts

      pub turn_start : b ≡ true → Some (start_turn p i) ≡ turn_in program waits locks p i
      turn_start h = sym (start.start_due program waits locks p i (starts_at ∙ h)) ∙ start_here other

      pub turn_idle : b ≡ false → None ≡ turn_in program waits locks p i
      turn_idle h = idle other (starts_at ∙ h)

    -- no task below the level has a turn, the running job's apart
    pub low_idle : (i ≡ top → ⊥) → i < level_in program locks p → None ≡ turn_in program waits locks p i
    low_idle other low = idle other (start.starts_low program waits (level_in program locks p) p i low)

    -- a turn that is due and not the running job's is the start of a task that is not below the level
    module _ (other : i ≡ top → ⊥) {d : Due} (due : Some d ≡ turn_in program waits locks p i) where
      due_starts : starts_in program waits locks p i ≡ true
      due_starts = elim (test_decided (starts_in program waits locks p i)) [
        | inl h ↦ h
        | inr h ↦ absurd (let clash : ◌≡◌ {A = Option Due} None (Some d) = idle other h ∙ sym due in cc)
      ]

      pub due_start : Some (start_turn p i) ≡ turn_in program waits locks p i
      due_start = turn_start other refl refl due_starts

      pub due_above : level_in program locks p ≤ i
      due_above = (start.starts_says program waits (level_in program locks p) p i due_starts).above

  -- the running job's task is below the level: its base is not above that job's present priority
  pub high_other : (locks : Ceilings) → level_in program locks p ≤ i → i ≡ top → ⊥
  unfolding bar_in
  high_other locks high here =
      let says = running_says program p (omega (arith, is)) in
      let over = start.level_over program locks p (λ flat. omega (arith, says.0)) i small high in
      let ceilings = take locks.count locks.ceilings in
      let base = priority_base ceilings (owner_in program (top_of p).job.0) (top_of p).local.held in
      omega (arith, over, base, says.2, is)
