-- Laws of one step of a plan's run: how its two bytes are judged, and what it leaves.
-- Assumes nothing.
use Rattle.std.specs.Prelude.{◌≡◌, ℕ, ◌+◌, ◌≤◌, ◌<◌, Bool, not, ◌&&◌, leb, ltb, length, get_or, set, List}
use Rattle.std.proofs.Math.Path.{sym, ap}
use Rattle.std.proofs.Common.{◌∙◌}
use Rattle.std.proofs.Math.Bool.{true, false}
use borrow.Author.Tests.{lt-ltb, le-ltb, le-leb, lt-leb, ltb-true, not-true, not-false}
use Rattle.notation.specs.Checked.{Checked, refused, passed, require, ◌>>◌}
use Rattle.notation.specs.Laws.CheckedLaws.{require_holds, require_fails}
use Rattle.notation.specs.Laws.TestLaws.{and_both, and_first, and_second, and_last, and_holds}
use Rattle.notation.specs.Lists.{member}
use Rattle.taskfile.specs.declared.Instruction.{Instruction}
use Rattle.machine.specs.Instructions.{values}
use Rattle.plan.specs.declared.Round.{Round}
use Rattle.plan.specs.Runs.{Plan}
use Rattle.plan_marks.specs.declared.Marks.{Marks}
use Rattle.plan_marks.specs.declared.StepMark.{StepMark}
use Rattle.plan_marks.specs.Code.Marks.{with_mark}
use Rattle.plan.specs.Runs.{step_bytes_for}
use Rattle.plan_runs.specs.Code.StepBounds.{may_step}

-- ---- whether a step may be made

module _ (base next : ℕ) where
  pub may_high : 8 ≤ base → false ≡ may_step base next
  unfolding may_step
  may_high high = sym (and_first (ltb base 8) _ (le-ltb _ _ high))

  pub may_next : base < 8 → ltb next 16 ≡ may_step base next
  unfolding may_step
  may_next low = sym (and_second (ltb base 8) _ (lt-ltb _ _ low))

-- what a step that may be made is known by
pub may_bounds : (base next : ℕ) {b : Bool} → b ≡ may_step base next → b ≡ true → (base < 8) × (next < 16)
unfolding may_step
may_bounds base next is may =
    let both = and_both (ltb base 8) _ (sym is ∙ may) in
    (ltb-true _ _ both.0, ltb-true _ _ both.1)

-- ---- the step's two bytes, judged in the order 40, 42, 41

module _ (k : ℕ) (i : Instruction) (plan : Plan) (previous : Round) (offset : ℕ) where
  abbrev judged : Checked ℕ (Unit {0})
  judged = step_bytes_for k i plan previous offset

  abbrev in_rounds : Bool
  in_rounds = ltb (get_or plan offset 0) k && leb previous.0 (get_or plan offset 0)

  abbrev offered : Bool
  offered = member (get_or plan (offset + 1) 0) (values i)

  abbrev valued : Checked ℕ (Unit {0})
  valued = require offered 41 (offset + 1)

  abbrev placed : Checked ℕ (Unit {0})
  placed = ◌>>◌ (require in_rounds 42 offset) valued

  -- bytes run out
  pub step_short : length plan ≤ offset + 1 → refused 40 (length plan) ≡ judged
  unfolding step_bytes_for
  step_short short = sym (require_fails (ltb (offset + 1) (length plan)) 40 (length plan) placed (le-ltb _ _ short))

  module _ (long : offset + 1 < length plan) where
    there : step_bytes_for k i plan previous offset ≡ placed
    unfolding step_bytes_for
    there = require_holds (ltb (offset + 1) (length plan)) 40 (length plan) placed (lt-ltb _ _ long)

    outside : in_rounds ≡ false → refused 42 offset ≡ judged
    outside out = sym (there ∙ require_fails in_rounds 42 offset valued out)

    -- a round that is none of the k
    pub step_beyond : k ≤ get_or plan offset 0 → refused 42 offset ≡ judged
    step_beyond beyond = outside (and_first (ltb (get_or plan offset 0) k) _ (le-ltb _ _ beyond))

    -- a round before the job's previous step's
    pub step_back : get_or plan offset 0 < previous.0 → refused 42 offset ≡ judged
    step_back back = outside (and_last (ltb (get_or plan offset 0) k) _ (lt-leb _ _ back))

    module _ (among : get_or plan offset 0 < k) (onward : previous.0 ≤ get_or plan offset 0) where
      within : step_bytes_for k i plan previous offset ≡ valued
      within =
          there
          ∙ require_holds in_rounds 42 offset valued
          (and_holds (ltb (get_or plan offset 0) k) _ (lt-ltb _ _ among) (le-leb _ _ onward))

      -- a value that is not on offer
      pub step_not_offered : {b : Bool} → b ≡ offered → not b ≡ true → refused 41 (offset + 1) ≡ judged
      unfolding require
      step_not_offered {b} is h =
          let no : offered ≡ false = sym is ∙ not-true b h in
          sym (within ∙ ap (λ (t : Bool). require t 41 (offset + 1)) no)

      -- no refusal
      pub step_good : {b : Bool} → b ≡ offered → not b ≡ false → passed tt ≡ judged
      unfolding require
      step_good {b} is h =
          let good : offered ≡ true = sym is ∙ not-false b h in
          sym (within ∙ ap (λ (t : Bool). require t 41 (offset + 1)) good)

-- ---- what the step leaves

-- in arrays of any marks
pub mark_listed : (steps : List StepMark) (at : ℕ) (r : Round) (v : ℕ) {p q : ℕ} → p ≡ q
    → set steps at (record { round = r; value = v; priority = p })
    ≡ set steps at (record { round = r; value = v; priority = q })
mark_listed steps at r v own = ap (λ (p : ℕ). set steps at (record { round = r; value = v; priority = p })) own

-- a priority that is the same makes the same mark
pub mark_noted : (marks : Marks) (x n : ℕ) (r : Round) (v : ℕ) {p q : ℕ} → p ≡ q
    → with_mark marks x n (record { round = r; value = v; priority_after = p })
    ≡ with_mark marks x n (record { round = r; value = v; priority_after = q })
mark_noted marks x n r v own = ap (λ (p : ℕ). with_mark marks x n (record { round = r; value = v; priority_after = p })) own
