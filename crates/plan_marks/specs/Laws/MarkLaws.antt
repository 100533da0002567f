-- Laws of the marks of jobs' steps: what one mark more changes.
-- Assumes nothing.
use Rattle.std.specs.Prelude.{◌≡◌, ℕ, ◌+◌, ◌*◌, ◌<◌, [], ◌∷◌, ◌++◌, map, set}
use Rattle.std.proofs.Math.Path.{refl}
use Rattle.std.proofs.Common.{sym, ◌∙◌, ap, arith}
use Rattle.std.proofs.Math.Decide.{dec_lt}
use Rattle.std.proofs.lemmas.List.{get_or-replicate}
use Rattle.std.proofs.Math.Seq.{get_or-set_same, get_or-set_other}
use mathlib.Core.HLevel.{is_prop→PathP}
use Rattle.notation.specs.Lists.{from, up_to}
use Rattle.notation.specs.Laws.TabulateLaws.{same_values, values_snoc}
use Rattle.plan.specs.Runs.{Step}
use Rattle.plan_marks.specs.declared.Marks.{Marks}
use Rattle.plan_marks.specs.Code.IsMarks.{IsMarks, IsMarks-prop}
use Rattle.plan_marks.specs.Code.Marks.{step_of, mark_for, no_mark, no_marks, step_marked, step_count, steps_marked, with_mark, marked_if}

-- marks are the same where their counts and their steps are
pub marks_same : (p q : Marks) → p.counts ≡ q.counts → p.steps ≡ q.steps → p ≡ q
marks_same p q counts steps = λ i. record {
  counts = counts i;
  steps = steps i;
  is_marks = is_prop→PathP (λ j. IsMarks (counts j) (steps j)) (λ j. IsMarks-prop (counts j) (steps j)) p.is_marks q.is_marks i;
}

module _ (marks : Marks) (x n : ℕ) (room : n < 16) (step : Step) where
  -- a number of steps and a step are written
  counts_if : (d : Dec (n < 16)) → (marked_if marks x n step d).counts ≡ set marks.counts x (n + 1)
  unfolding marked_if
  counts_if (yes is) = refl
  counts_if (no full) = absurd (full room)

  steps_if : (d : Dec (n < 16)) → (marked_if marks x n step d).steps ≡ set marks.steps (16 * x + n) (mark_for step)
  unfolding marked_if
  steps_if (yes is) = refl
  steps_if (no full) = absurd (full room)

  pub mark_counts : (with_mark marks x n step).counts ≡ set marks.counts x (n + 1)
  unfolding with_mark
  mark_counts = counts_if (dec_lt n 16)

  pub mark_steps : (with_mark marks x n step).steps ≡ set marks.steps (16 * x + n) (mark_for step)
  unfolding with_mark
  mark_steps = steps_if (dec_lt n 16)

  -- so both arrays written are the marks with one step more
  pub mark_written : (marks' : Marks) → marks'.counts ≡ set marks.counts x (n + 1)
      → marks'.steps ≡ set marks.steps (16 * x + n) (mark_for step) → marks' ≡ with_mark marks x n step
  mark_written marks' counts steps =
      marks_same marks' _ (counts ∙ sym mark_counts) (steps ∙ sym mark_steps)

module _ (marks : Marks) (x n : ℕ) (is_x : x < 32) (is_n : n < 16) (step : Step) where
  -- the job has n + 1 steps
  pub count_here : step_count (with_mark marks x n step) x ≡ n + 1
  unfolding step_count
  count_here =
      rw (mark_counts marks x n is_n step) (get_or-set_same marks.counts x (n + 1) 0 (omega (arith, marks.is_marks.counted)))

  -- another job has as many as it had
  pub count_other : (y : ℕ) → (y ≡ x → ⊥) → step_count (with_mark marks x n step) y ≡ step_count marks y
  unfolding step_count
  count_other y apart =
      rw (mark_counts marks x n is_n step) (get_or-set_other marks.counts x y (n + 1) 0 apart)

  -- the step stands in its place
  pub mark_here : step_marked (with_mark marks x n step) x n ≡ step
  unfolding step_marked
  mark_here =
      ap step_of (rw (mark_steps marks x n is_n step)
      (get_or-set_same marks.steps (16 * x + n) (mark_for step) no_mark (omega (arith, marks.is_marks.placed))))

  -- a step in another place is kept
  pub mark_kept : (y m : ℕ) → (16 * y + m ≡ 16 * x + n → ⊥)
      → step_marked (with_mark marks x n step) y m ≡ step_marked marks y m
  unfolding step_marked
  mark_kept y m apart =
      ap step_of (rw (mark_steps marks x n is_n step)
      (get_or-set_other marks.steps (16 * x + n) (16 * y + m) (mark_for step) no_mark apart))

  -- the job has its first n steps and then this one
  pub mark_added : steps_marked (with_mark marks x n step) x ≡ map (step_marked marks x) (up_to n) ++ (step ∷ [])
  unfolding steps_marked
  mark_added =
      rw count_here (values_snoc (step_marked (with_mark marks x n step) x) n
      ∙ rw (
        mark_here,
        same_values (step_marked (with_mark marks x n step) x) (step_marked marks x) n
            (λ m lt. mark_kept x m (λ e. omega arith)),
      ) refl)

  -- the other jobs have the steps that they had
  pub mark_others : (y : ℕ) → (y ≡ x → ⊥) → steps_marked (with_mark marks x n step) y ≡ steps_marked marks y
  unfolding steps_marked step_count
  mark_others y apart =
      rw (count_other y apart) (same_values (step_marked (with_mark marks x n step) y) (step_marked marks y) (step_count marks y)
      (λ m lt. mark_kept y m (λ e. apart (omega (arith, marks.is_marks.few y)))))

-- where there are no marks, no job has a step
pub no_marks_of : (x : ℕ) → x < 32 → steps_marked no_marks x ≡ []
unfolding steps_marked step_count up_to from
no_marks_of x is_x = rw (get_or-replicate {A = ℕ} 32 x 0 0 is_x) refl
