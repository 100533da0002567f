-- What holds of a table that was judged: 7, 8 and 9 stand nowhere in it. Document 01, "Numbers by who causes them".
-- Assumes nothing.
use Rattle.std.specs.Prelude.{ℕ, suc, ◌+◌, ◌-◌, ◌<◌, ◌≡◌, true, false, ◌&&◌, eqb}
use native.Mathlib.Omega.{arith}
use Rattle.std.proofs.Math.Bool.{not}
use mathlib.Core.List.Memᴰ
use mathlib.Core.List.{Memᴰ}
use Rattle.std.proofs.Math.ListN.{length}
use borrow.Author.Tests.{eq-eqb, ltb-false, not-false}
use Rattle.taskfile.specs.declared.Site.TheVariants.{AtTask, AtInstruction}
use Rattle.taskfile.specs.declared.Table.{Table}
use Rattle.taskfile.specs.declared.Task.{Task}
use Rattle.notation.specs.Checked.{passed}
use Rattle.notation.specs.Laws.CheckedLaws.{then_passed, none_of_passed}
use Rattle.taskfile.specs.Judgement.{task_numbers, instruction_sites, instruction_of, is_end, is_skip, of_instruction}
use Rattle.taskfile.specs.Judgement.{of_task, body_fault, rate_fault, ceiling_fault, judged}
use Rattle.notation.specs.Laws.ListLaws.{up_to_member, each_member}
use Rattle.notation.specs.Laws.TestLaws.{or_neither, other_fails}
use Rattle.taskfile.specs.Tables.{tasks_of, task_of, body_of}

-- every task is among those judged
pub task_listed : (t : Table) (i : Task) → i.0 < length (tasks_of t) → Memᴰ i (task_numbers t)
unfolding task_numbers
task_listed t i h = Memᴰ.map (λ (n : ℕ). record { 0 = n }) ((up_to_member _ _).1 h)

-- every instruction is among those judged
pub site_listed : (t : Table) (i : Task) → i.0 < length (tasks_of t) → (p : ℕ) → p < length (body_of (task_of t i))
    → Memᴰ (AtInstruction i p) (instruction_sites t)
unfolding instruction_sites
site_listed t i h p b = each_member _ (task_listed t i h) (Memᴰ.map (λ q. AtInstruction i q) ((up_to_member _ _).1 b))

module _ (t : Table) (judgement : judged t ≡ passed tt) (i : Task) (known : i.0 < length (tasks_of t)) where
  -- no instruction has a fault of 7
  pub no_body_fault : (p : ℕ) → p < length (body_of (task_of t i)) → body_fault t i p ≡ false
  unfolding judged of_instruction
  no_body_fault p b = none_of_passed 7 (of_instruction (body_fault t)) (then_passed _ _ judgement).1 (site_listed t i known p b)

  -- no task has a fault of 8
  pub no_rate_fault : rate_fault t i ≡ false
  unfolding judged of_task
  no_rate_fault =
      none_of_passed 8 (of_task (rate_fault t)) (then_passed _ _ (then_passed _ _ judgement).2).1
      (Memᴰ.map (λ j. AtTask j) (task_listed t i known))

  -- no instruction has a fault of 9
  pub no_ceiling_fault : (p : ℕ) → p < length (body_of (task_of t i)) → ceiling_fault t i p ≡ false
  unfolding judged of_instruction
  no_ceiling_fault p b =
      none_of_passed 9 (of_instruction (ceiling_fault t)) (then_passed _ _ (then_passed _ _ judgement).2).2 (site_listed t i known p b)

  -- "The last instruction is End"
  pub last_is_end : (p : ℕ) → suc p ≡ length (body_of (task_of t i)) → is_end (instruction_of t i p) ≡ true
  unfolding body_fault
  last_is_end p final =
      let here = instruction_of t i p in
      let last = length (body_of (task_of t i)) - 1 in
      let same : p ≡ last = omega arith in
      let causes = or_neither (eqb p last && not (is_end here)) _ (no_body_fault p (omega arith)) in
      not-false (is_end here) (other_fails (eqb p last) _ causes.0 (eq-eqb p last same))

  -- a skip, if it is taken, lands inside the body
  pub skip_inside : (p : ℕ) → p < length (body_of (task_of t i)) → is_skip (instruction_of t i p) ≡ true
      → p + 1 + (instruction_of t i p).c < length (body_of (task_of t i))
  unfolding body_fault
  skip_inside p b skip =
      let here = instruction_of t i p in
      let last = length (body_of (task_of t i)) - 1 in
      let causes = or_neither (eqb p last && not (is_end here)) _ (no_body_fault p b) in
      let inside = ltb-false last (p + 1 + here.c) (other_fails (is_skip here) _ causes.1 skip) in
      omega arith
