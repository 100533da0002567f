-- Laws of the tests that decide a start: each test's answer from one of its parts, and what a start says.
-- Assumes nothing.
use Prim.Native.Nat.{ℕ, suc, ◌+◌, ◌-◌, ◌≤◌, ◌<◌}
use Rattle.std.specs.Prelude.{◌≡◌, Bool, true, false, not, ◌&&◌, ◌||◌, eqb, get_or, List, Some, None}
use Rattle.std.proofs.Math.Path.{refl, sym, ap}
use Rattle.std.proofs.Common.{subst, ◌∙◌, inl, inr, add-one, true≢false}
use native.Mathlib.Omega.{arith}
use borrow.Author.Tests.{ltb-true, leb-true, lt-ltb, le-ltb, le-leb, lt-leb, eq-eqb, ne_eqb, not-true}
use Rattle.std.proofs.Math.Dec.{leb, ltb}
use Rattle.taskfile.specs.declared.Ceilings.{Ceilings}
use Rattle.notation.specs.Lists.{any, from, up_to}
use Rattle.notation.specs.Laws.TestLaws.{and_both, and_holds, and_first, and_second, and_last, or_right, test_decided}
use Rattle.order_states.specs.Code.Snapshots.{Snapshot}
use Rattle.order_states.specs.Code.SnapshotSteps.{Program, WaitTable, owner_in, owned_by, waits_for, must_wait}
use Rattle.order_states.specs.Code.SnapshotSteps.{bar_in, level_in, top_of, starts_above, starts_in}
use Rattle.order_states.specs.Code.SnapshotSteps.{start_turn, start_in}

-- ---- what a job waits for

or_false : (b : Bool) → (b || false) ≡ b
or_false true = refl
or_false false = refl

or_regroup : (b c d : Bool) → (b || (c || d)) ≡ ((b || c) || d)
or_regroup true c d = refl
or_regroup false c d = refl

-- what a task owns is a job
pub owned_job : (program : Program) (k x : ℕ) → owned_by program k x ≡ true → x < 32
unfolding owned_by
owned_job program k x h = ltb-true x 32 (and_both (ltb x 32) (eqb (owner_in program x) k) h).0

-- the answer so far, and what the tasks from k on decide
abbrev pub WaitKept : WaitTable → List ℕ → ℕ → ℕ → Bool → Type 0
WaitKept waits unended y k b = must_wait waits unended y ≡ (b || any (waits_for waits unended y) (from k (8 - k)))

pub wait_starts : (waits : WaitTable) (unended : List ℕ) (y : ℕ) → WaitKept waits unended y 0 false
unfolding must_wait up_to
wait_starts waits unended y = refl

module _ (waits : WaitTable) (unended : List ℕ) (y k : ℕ) (b : Bool) (kept : WaitKept waits unended y k b) where
  wait_onward : k < 8 → WaitKept waits unended y (k + 1) (b || waits_for waits unended y k)
  unfolding any from
  wait_onward lt =
      let more : 8 - k ≡ suc (8 - (k + 1)) = omega arith in
      kept ∙ ap (λ (m : ℕ). b || any (waits_for waits unended y) (from k m)) more
      ∙ or_regroup b (waits_for waits unended y k) (any (waits_for waits unended y) (from (suc k) (8 - (k + 1))))
      ∙ ap (λ (m : ℕ). (b || waits_for waits unended y k) || any (waits_for waits unended y) (from m (8 - (k + 1)))) (sym (add-one k))

  -- it waits for a job of task k
  pub wait_found : k < 8 → waits_for waits unended y k ≡ true → WaitKept waits unended y (k + 1) true
  wait_found lt h = subst (WaitKept waits unended y (k + 1)) (or_right b _ h) (wait_onward lt)

  -- it does not
  pub wait_later : k < 8 → waits_for waits unended y k ≡ false → WaitKept waits unended y (k + 1) b
  wait_later lt h = subst (WaitKept waits unended y (k + 1)) (ap (λ (c : Bool). b || c) h ∙ or_false b) (wait_onward lt)

  -- no task is left
  pub wait_done : 8 ≤ k → b ≡ must_wait waits unended y
  unfolding any from
  wait_done le =
      let none : 8 - k ≡ 0 = omega arith in
      sym (kept ∙ ap (λ (m : ℕ). b || any (waits_for waits unended y) (from k m)) none ∙ or_false b)

-- ---- what it may start over

module _ (program : Program) (locks : Ceilings) (p : Snapshot) where
  -- no job is active
  pub level_flat : p.depth ≡ 0 → level_in program locks p ≡ 0
  unfolding level_in
  level_flat h = rw (eq-eqb p.depth 0 h) refl

  -- one is: a level that some task has is one above the running job's present priority
  module _ (deep : p.depth ≡ 0 → ⊥) where
    pub level_none : (ltb (top_of p).job.0 32 && ltb (bar_in program locks p) 8) ≡ false → level_in program locks p ≡ 8
    unfolding level_in
    level_none h = rw (ne_eqb p.depth 0 deep, h) refl

    pub level_some : (ltb (top_of p).job.0 32 && ltb (bar_in program locks p) 8) ≡ true
        → level_in program locks p ≡ bar_in program locks p + 1
    unfolding level_in
    level_some h = rw (ne_eqb p.depth 0 deep, h) refl

    pub level_over : (n : ℕ) → n < 8 → level_in program locks p ≤ n → bar_in program locks p < n
    level_over n small le = elim (test_decided (ltb (top_of p).job.0 32 && ltb (bar_in program locks p) 8)) [
      | inl h ↦ omega (arith, level_some h)
      | inr h ↦ absurd (omega (arith, level_none h))
    ]

    pub over_level : (top_of p).job.0 < 32 → (n : ℕ) → n < 8 → bar_in program locks p < n → level_in program locks p ≤ n
    over_level job n small lt =
        omega (
          arith,
          level_some (and_holds (ltb (top_of p).job.0 32) _ (lt-ltb _ 32 job) (lt-ltb (bar_in program locks p) 8 (omega arith))),
        )

-- ---- whether a task's job starts

-- five tests in a row
abbrev five : Bool → Bool → Bool → Bool → Bool → Bool
five a b c d e = a && b && c && d && e

five_first : (a b c d e : Bool) → a ≡ false → five a b c d e ≡ false
five_first true b c d e h = absurd (true≢false h)
five_first false b c d e h = refl

five_second : (a b c d e : Bool) → b ≡ false → five a b c d e ≡ false
five_second a true c d e h = absurd (true≢false h)
five_second true false c d e h = refl
five_second false false c d e h = refl

five_third : (a b c d e : Bool) → c ≡ false → five a b c d e ≡ false
five_third a b c d e h = and_first (a && b && c && d) e (and_first (a && b && c) d (and_last (a && b) c h))

five_fourth : (a b c d e : Bool) → d ≡ false → five a b c d e ≡ false
five_fourth a b c d e h = and_first (a && b && c && d) e (and_last (a && b && c) d h)

five_last : (a b c d e : Bool) → a ≡ true → b ≡ true → c ≡ true → d ≡ true → five a b c d e ≡ e
five_last a b c d e ha hb hc hd =
    and_second (a && b && c && d) e (and_holds (a && b && c) d (and_holds (a && b) c (and_holds a b ha hb) hc) hd)

module _ (program : Program) (waits : WaitTable) (low : ℕ) (p : Snapshot) (i : ℕ) where
  abbrev y : ℕ
  y = get_or p.unended i 0

  pub starts_no_task : 8 ≤ i → starts_above program waits low p i ≡ false
  unfolding starts_above
  starts_no_task h = five_first (ltb i 8) _ _ _ _ (le-ltb i 8 h)

  pub starts_low : i < low → starts_above program waits low p i ≡ false
  unfolding starts_above
  starts_low h = five_second (ltb i 8) (leb low i) _ _ _ (lt-leb low i h)

  pub starts_full : 8 ≤ p.depth → starts_above program waits low p i ≡ false
  unfolding starts_above
  starts_full h = five_third (ltb i 8) (leb low i) (ltb p.depth 8) _ _ (le-ltb _ 8 h)

  pub starts_unowned : owned_by program i (get_or p.unended i 0) ≡ false → starts_above program waits low p i ≡ false
  unfolding starts_above
  starts_unowned h = five_fourth (ltb i 8) (leb low i) (ltb p.depth 8) (owned_by program i y) _ h

  pub starts_free : i < 8 → low ≤ i → p.depth < 8 → owned_by program i (get_or p.unended i 0) ≡ true
      → starts_above program waits low p i ≡ not (must_wait waits p.unended (get_or p.unended i 0))
  unfolding starts_above
  starts_free h above room owned =
      five_last (ltb i 8) (leb low i) (ltb p.depth 8) (owned_by program i y) _ (lt-ltb i 8 h) (le-leb low i above) (lt-ltb _ 8 room) owned

  -- a start, condition by condition
  pub record Starts : Type 0 where
    pub task : i < 8
    pub above : low ≤ i
    pub room : p.depth < 8
    pub owned : owned_by program i (get_or p.unended i 0) ≡ true
    pub free : must_wait waits p.unended (get_or p.unended i 0) ≡ false

  pub starts_says : starts_above program waits low p i ≡ true → Starts
  unfolding starts_above
  starts_says h =
      let e4 = and_both (ltb i 8 && leb low i && ltb p.depth 8 && owned_by program i y) _ h in
      let e3 = and_both (ltb i 8 && leb low i && ltb p.depth 8) _ e4.0 in
      let e2 = and_both (ltb i 8 && leb low i) _ e3.0 in
      let e1 = and_both (ltb i 8) _ e2.0 in
      record {
        task = ltb-true i 8 e1.0;
        above = leb-true _ _ e1.1;
        room = ltb-true p.depth 8 e2.1;
        owned = e3.1;
        free = not-true _ e4.1;
      }

  pub starts_hold : Starts → starts_above program waits low p i ≡ true
  starts_hold s = starts_free s.task s.above s.room s.owned ∙ ap not s.free

module _ (program : Program) (waits : WaitTable) (locks : Ceilings) (p : Snapshot) (i : ℕ) where
  pub start_none : starts_in program waits locks p i ≡ false → start_in program waits locks p i ≡ None
  unfolding start_in
  start_none h = rw h refl

  pub start_due : starts_in program waits locks p i ≡ true → start_in program waits locks p i ≡ Some (start_turn p i)
  unfolding start_in
  start_due h = rw h refl
