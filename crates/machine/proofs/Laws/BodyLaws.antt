-- Every instruction body of a judged table ends within its length in steps, whatever Pick values and stores it meets.
-- Document 01, "Instructions": "Skips go forward only"; "The last instruction is End".
-- Assumes nothing.
use Rattle.std.specs.Prelude.{ℕ, zero, suc, ◌+◌, ◌≤◌, ◌<◌, ◌≡◌, Bool, ◌||◌, ◌≢◌, get_or, ltb, eqb}
use native.Mathlib.Omega.{arith}
use Rattle.std.proofs.Math.Path.{refl}
use Rattle.std.proofs.Common.{sym, ap, ◌∙◌, true≢false, eqb-true}
use Rattle.std.proofs.Math.Bool.{true, false}
use mathlib.Core.List.{List, [], ◌∷◌}
use Rattle.std.proofs.Math.ListN.{length}
use Rattle.taskfile.specs.declared.Instruction.{Instruction}
use Rattle.taskfile.specs.declared.Table.{Table}
use Rattle.taskfile.specs.declared.Task.{Task}
use Rattle.notation.specs.Checked.{passed}
use Rattle.taskfile.specs.Judgement.{judged, instruction_of, is_end, is_skip}
use Rattle.taskfile.proofs.Laws.JudgementLaws.{last_is_end, skip_inside}
use Rattle.std.specs.Prelude.{if◌then◌else◌}
use Rattle.taskfile.specs.Tables.{tasks_of, task_of, body_of}
use Rattle.machine.specs.declared.Effect.{Effect}
use Rattle.machine.specs.declared.Local.{Local}
use Rattle.machine.specs.Instructions.{Store, fresh, perform, operation_effects, end_job, load_variable, store}
use Rattle.machine.specs.Instructions.{set_number, add, subtract, skip_less, skip_equal, pick, acquire_lock}
use Rattle.machine.specs.Instructions.{release_lock, assert, skipping, with_register, with_held, register}

-- what a job meets at a step: the Pick's choice, and the store that others left
pub record Met : Type 0 where
  pub value : ℕ
  pub store : Store

-- does the job perform its End while it meets these, one at each step?
unfoldable pub ends_during : Table → Task → Local → List Met → Bool
ends_during t i l [] = false
ends_during t i l (m ∷ met) =
    let e = perform (instruction_of t i l.next) m.value l m.store in
    e.ended || ends_during t i e.local met

-- how many instructions an instruction may skip
unfoldable pub skipped : Instruction → ℕ
skipped i = if is_skip i then i.c else 0

-- the effect leaves the job one instruction further on, and at most n more
pub record Onward (l : Local) (n : ℕ) (e : Effect) : Type 0 where
  pub forward : l.next < e.local.next
  pub at_most : e.local.next ≤ l.next + 1 + n

-- a skip taken or not
chosen : (test : Bool) (n : ℕ) → (if test then n else 0) ≤ n
chosen true n = omega arith
chosen false n = omega arith

-- each operation by its number; a number above 11 is taken as End
onward : (o : ℕ) (i : Instruction) (v : ℕ) (l : Local) (s : Store)
    → Onward l (if eqb o 6 || eqb o 7 then i.c else 0) (get_or operation_effects o end_job i v l s)
unfolding operation_effects end_job load_variable store set_number add subtract skip_less skip_equal pick acquire_lock
    release_lock assert skipping with_register with_held
onward zero i v l s = omega arith
onward (suc zero) i v l s = omega arith
onward (suc (suc zero)) i v l s = omega arith
onward (suc (suc (suc zero))) i v l s = omega arith
onward (suc (suc (suc (suc zero)))) i v l s = omega arith
onward (suc (suc (suc (suc (suc zero))))) i v l s = omega arith
onward (suc (suc (suc (suc (suc (suc zero)))))) i v l s = omega (arith, chosen (ltb (register l i.a) (register l i.b)) i.c)
onward (suc (suc (suc (suc (suc (suc (suc zero))))))) i v l s = omega (arith, chosen (eqb (register l i.a) (register l i.b)) i.c)
onward (suc (suc (suc (suc (suc (suc (suc (suc zero)))))))) i v l s = omega arith
onward (suc (suc (suc (suc (suc (suc (suc (suc (suc zero))))))))) i v l s = omega arith
onward (suc (suc (suc (suc (suc (suc (suc (suc (suc (suc zero)))))))))) i v l s = omega arith
onward (suc (suc (suc (suc (suc (suc (suc (suc (suc (suc (suc zero))))))))))) i v l s = omega arith
onward (suc (suc (suc (suc (suc (suc (suc (suc (suc (suc (suc (suc o)))))))))))) i v l s = omega arith

-- an instruction leaves the job past it, by no more than it may skip
pub perform_onward : (i : Instruction) (v : ℕ) (l : Local) (s : Store) → Onward l (skipped i) (perform i v l s)
unfolding perform skipped is_skip
perform_onward i v l s = onward i.operation i v l s

-- End ends the job
pub perform_end : (i : Instruction) (v : ℕ) (l : Local) (s : Store) → is_end i ≡ true → (perform i v l s).ended ≡ true
unfolding perform operation_effects end_job is_end
perform_end i v l s h = ap (λ (o : ℕ). (get_or operation_effects o end_job i v l s).ended) (eqb-true i.operation 0 h)

-- a job ends at this step or, if not now, later
now_or_later : (now later : Bool) → (now ≡ false → later ≡ true) → (now || later) ≡ true
now_or_later true later f = refl
now_or_later false later f = f refl

module _ (t : Table) (judgement : judged t ≡ passed tt) (i : Task) (known : i.0 < length (tasks_of t)) where
  -- an instruction before the last may skip only inside the body
  room : (p : ℕ) → suc p < length (body_of (task_of t i))
      → p + 1 + skipped (instruction_of t i p) < length (body_of (task_of t i))
  unfolding skipped
  room p b = go (is_skip (instruction_of t i p)) (skip_inside t judgement i known p (omega arith))
    where
      go : (skip : Bool) → (skip ≡ true → p + 1 + (instruction_of t i p).c < length (body_of (task_of t i)))
          → p + 1 + (if skip then (instruction_of t i p).c else 0) < length (body_of (task_of t i))
      go true f = f refl
      go false f = omega arith

  -- a step that is no End is not the last instruction's
  not_last : (l : Local) (v : ℕ) (s : Store) → (perform (instruction_of t i l.next) v l s).ended ≡ false
      → suc l.next ≢ length (body_of (task_of t i))
  not_last l v s goes last = true≢false (sym (perform_end _ v l s (last_is_end t judgement i known l.next last)) ∙ goes)

  -- a step that is no End goes forward and stays inside the body
  pub body_step : (l : Local) → l.next < length (body_of (task_of t i)) → (v : ℕ) (s : Store)
      → (perform (instruction_of t i l.next) v l s).ended ≡ false
      → (l.next < (perform (instruction_of t i l.next) v l s).local.next)
      × ((perform (instruction_of t i l.next) v l s).local.next < length (body_of (task_of t i)))
  body_step l b v s goes =
      let other = not_last l v s goes in
      let inside = room l.next (omega arith) in
      omega (arith, perform_onward (instruction_of t i l.next) v l s)

  -- from any position of the body the job ends within as many steps as instructions are left
  pub body_ends_from : (met : List Met) (l : Local) → l.next < length (body_of (task_of t i))
      → length (body_of (task_of t i)) ≤ l.next + length met → ends_during t i l met ≡ true
  unfolding ends_during
  body_ends_from [] l b enough = absurd (omega arith)
  body_ends_from (m ∷ met) l b enough =
      let e = perform (instruction_of t i l.next) m.value l m.store in
      let step = body_step l b m.value m.store in
      now_or_later e.ended _ (λ goes. body_ends_from met e.local (step goes).1 (omega (arith, step goes)))

  -- every instruction body ends within its length in steps
  pub body_ends : 1 ≤ length (body_of (task_of t i)) → (met : List Met) → length (body_of (task_of t i)) ≤ length met
      → ends_during t i fresh met ≡ true
  unfolding fresh
  body_ends some met enough = body_ends_from met fresh (omega arith) (omega arith)
