-- Which operations end a job: 0 and every number above 11.
-- Assumes nothing.
use Rattle.std.specs.Prelude.{◌≡◌, ℕ, zero, suc, true, List, ◌≢◌, nat_lt, slice_index_or, refl}
use Rattle.std.proofs.Common.{sym, arith, lt-ltb}
use Rattle.std.proofs.Math.Path.{ap}
use Rattle.taskfile.specs.declared.Instruction.{Instruction}
use Rattle.machine.specs.declared.Local.{Local}
use Rattle.machine.specs.declared.Effect.{Effect}
use Rattle.machine.specs.Instructions.{operation_effects, perform, end_job, load_variable, store, set_number, add}
use Rattle.machine.specs.Instructions.{subtract, skip_less, skip_equal, pick, acquire_lock, release_lock, assert}
use Rattle.machine.proofs.Laws.InstructionLaws.{perform_operation}

-- each operation but 0 by its number
ended_by : (n : ℕ) (o : Instruction) (v : ℕ) (l : Local) (s : List ℕ) → (n ≢ 0)
    → (slice_index_or operation_effects n end_job o v l s).ended ≡ nat_lt 11 n
unfolding operation_effects end_job load_variable store set_number add subtract skip_less skip_equal pick acquire_lock release_lock assert
ended_by zero o v l s some = absurd (some refl)
ended_by (suc zero) o v l s some = refl
ended_by (suc (suc zero)) o v l s some = refl
ended_by (suc (suc (suc zero))) o v l s some = refl
ended_by (suc (suc (suc (suc zero)))) o v l s some = refl
ended_by (suc (suc (suc (suc (suc zero))))) o v l s some = refl
ended_by (suc (suc (suc (suc (suc (suc zero)))))) o v l s some = refl
ended_by (suc (suc (suc (suc (suc (suc (suc zero))))))) o v l s some = refl
ended_by (suc (suc (suc (suc (suc (suc (suc (suc zero)))))))) o v l s some = refl
ended_by (suc (suc (suc (suc (suc (suc (suc (suc (suc zero))))))))) o v l s some = refl
ended_by (suc (suc (suc (suc (suc (suc (suc (suc (suc (suc zero)))))))))) o v l s some = refl
ended_by (suc (suc (suc (suc (suc (suc (suc (suc (suc (suc (suc zero))))))))))) o v l s some = refl
ended_by (suc (suc (suc (suc (suc (suc (suc (suc (suc (suc (suc (suc n)))))))))))) o v l s some =
    sym (lt-ltb 11 (suc (suc (suc (suc (suc (suc (suc (suc (suc (suc (suc (suc n)))))))))))) (omega arith))

module _ (o : Instruction) (v : ℕ) (l : Local) (s : List ℕ) where
  -- 0 does, and another number if it is above 11
  pub ended_zero : o.operation ≡ 0 → (perform o v l s).ended ≡ true
  unfolding operation_effects end_job
  ended_zero is = ap (λ (e : Effect). e.ended) (perform_operation 0 o v l s is)

  pub ended_else : (o.operation ≢ 0) → (perform o v l s).ended ≡ nat_lt 11 o.operation
  unfolding perform
  ended_else some = ended_by o.operation o v l s some
