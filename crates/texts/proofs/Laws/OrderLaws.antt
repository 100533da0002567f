-- Lines in order: which form a line has by its stage, and that the first two are the window's and the start values'.
-- Assumes nothing.
use Rattle.std.specs.Prelude.{◌≡◌, refl, ℕ, ◌≤◌, true, false, ◌&&◌, List, [], ◌∷◌, leb}
use Rattle.std.proofs.Common.{ap, subst, arith, leb-true}
use Rattle.notation.specs.Laws.TestLaws.{and_both, not_both}
use Rattle.notation.specs.Ordered.{Every}
use Rattle.texts.specs.declared.Form.{Form}
use Rattle.texts.specs.declared.Form.TheVariants.{WindowLine, StartLine, TaskLine, InstructionLine, LockLine}
use Rattle.texts.specs.Grammar.{Line, line_with, row_of, fits, IsLine, may_come, in_order, at_window, at_tasks}
use Rattle.texts.proofs.Laws.RowLaws.{operation_earliest, operation_stage}

-- a line may come, and the others after it
pub placed_parts : (stage : ℕ) (l : Line) (lines : List Line) → in_order stage (l ∷ lines) ≡ true
    → ((row_of l.form).earliest ≤ stage) × (stage ≤ (row_of l.form).latest)
    × (in_order (row_of l.form).stage lines ≡ true)
unfolding in_order may_come
placed_parts stage l lines placed =
    let r = row_of l.form in
    let both = and_both (leb r.earliest stage && leb stage r.latest) (in_order r.stage lines) placed in
    let here = and_both (leb r.earliest stage) (leb stage r.latest) both.0 in
    (leb-true r.earliest stage here.0, leb-true stage r.latest here.1, both.1)

-- no line leads back before the tasks, once it may come after the start values
pub stage_later : (form : Form) → 2 ≤ (row_of form).latest → 2 ≤ (row_of form).stage
unfolding row_of
stage_later WindowLine late = absurd (omega (arith, late))
stage_later StartLine late = absurd (omega (arith, late))
stage_later TaskLine late = omega arith
stage_later (InstructionLine operation) late = omega (arith, operation_stage operation)
stage_later LockLine late = omega arith

-- only the window's line may come first, and only the start line after it
first_window : (form : Form) → (row_of form).earliest ≤ 0 → form ≡ WindowLine
unfolding row_of
first_window WindowLine early = refl
first_window StartLine early = absurd (omega (arith, early))
first_window TaskLine early = absurd (omega (arith, early))
first_window (InstructionLine operation) early = absurd (omega (arith, early, operation_earliest operation))
first_window LockLine early = absurd (omega (arith, early))

second_start : (form : Form) → (row_of form).earliest ≤ 1 → 1 ≤ (row_of form).latest → form ≡ StartLine
unfolding row_of
second_start WindowLine early late = absurd (omega (arith, late))
second_start StartLine early late = refl
second_start TaskLine early late = absurd (omega (arith, early))
second_start (InstructionLine operation) early late = absurd (omega (arith, early, operation_earliest operation))
second_start LockLine early late = absurd (omega (arith, early))

-- lines from the window on: two lines, and others from the tasks on
pub record Begun (lines : List Line) : Type 0 where
  pub window : List ℕ
  pub start : List ℕ
  pub others : List Line
  pub is : lines ≡ line_with WindowLine window ∷ line_with StartLine start ∷ others
  pub wide : fits (row_of WindowLine).fields window ≡ true
  pub bytes : fits (row_of StartLine).fields start ≡ true
  pub placed : in_order at_tasks others ≡ true
  pub good : Every IsLine others

pub lines_begun : (lines : List Line) → in_order at_window lines ≡ true → Every IsLine lines → Begun lines
unfolding in_order row_of
lines_begun [] placed good = absurd (not_both false placed refl)
lines_begun (first ∷ []) placed good =
    let parts = placed_parts 0 first [] placed in
    let stage : (row_of first.form).stage ≡ 1 =
    ap (λ (f : Form). (row_of f).stage) (first_window first.form parts.0) in
    absurd (omega (arith, stage, leb-true 2 (row_of first.form).stage parts.2))
lines_begun (first ∷ second ∷ others) placed good =
    let before = placed_parts 0 first (second ∷ others) placed in
    let isFirst = first_window first.form before.0 in
    let stage : (row_of first.form).stage ≡ 1 = ap (λ (f : Form). (row_of f).stage) isFirst in
    let after = placed_parts (row_of first.form).stage second others before.2 in
    let isSecond = second_start second.form (omega (arith, stage, after.0)) (omega (arith, stage, after.1)) in
    record {
      window = first.numbers;
      start = second.numbers;
      others = others;
      is = λ j. line_with (isFirst j) first.numbers ∷ line_with (isSecond j) second.numbers ∷ others;
      wide = subst (λ (f : Form). fits (row_of f).fields first.numbers ≡ true) isFirst good.0.1;
      bytes = subst (λ (f : Form). fits (row_of f).fields second.numbers ≡ true) isSecond good.1.0.1;
      placed = subst (λ (f : Form). in_order (row_of f).stage others ≡ true) isSecond after.2;
      good = good.1.1;
    }
