-- No job ever holds more than `LocksWithin` says: it starts so, and every instruction keeps it so.
-- Assumes nothing.
use Rattle.std.specs.Prelude.{ℕ, zero, suc, get_or}
use Rattle.std.proofs.Common.{arith}
use Rattle.taskfile.specs.declared.Instruction.{Instruction}
use Rattle.machine.specs.declared.Local.{Local}
use Rattle.machine.specs.Code.Within.{LocksWithin}
use Rattle.machine.specs.Instructions.{Store, fresh, operation_effects, perform, skipping, with_register}
use Rattle.machine.specs.Instructions.{with_held, end_job, load_variable, store, set_number, add, subtract}
use Rattle.machine.specs.Instructions.{skip_less, skip_equal, pick, acquire_lock, release_lock, assert}
use Rattle.machine.proofs.Laws.HeldLaws.{no_locks_within, within_more, acquire_within, release_within}

pub fresh_within : LocksWithin fresh
unfolding fresh
fresh_within = no_locks_within 0

-- each operation by its number; a number above 11 is taken as End
operation_within : (o : ℕ) (i : Instruction) (v : ℕ) (l : Local) (s : Store) → LocksWithin l
    → LocksWithin (get_or operation_effects o end_job i v l s).local
unfolding operation_effects end_job load_variable store set_number add subtract skip_less skip_equal pick acquire_lock
    release_lock assert skipping with_register with_held
operation_within zero i v l s h = no_locks_within _
operation_within (suc zero) i v l s h = within_more h _ (omega arith)
operation_within (suc (suc zero)) i v l s h = within_more h _ (omega arith)
operation_within (suc (suc (suc zero))) i v l s h = within_more h _ (omega arith)
operation_within (suc (suc (suc (suc zero)))) i v l s h = within_more h _ (omega arith)
operation_within (suc (suc (suc (suc (suc zero))))) i v l s h = within_more h _ (omega arith)
operation_within (suc (suc (suc (suc (suc (suc zero)))))) i v l s h = within_more h _ (omega arith)
operation_within (suc (suc (suc (suc (suc (suc (suc zero))))))) i v l s h = within_more h _ (omega arith)
operation_within (suc (suc (suc (suc (suc (suc (suc (suc zero)))))))) i v l s h = within_more h _ (omega arith)
operation_within (suc (suc (suc (suc (suc (suc (suc (suc (suc zero))))))))) i v l s h =
    within_more (acquire_within h i.a) _ (omega arith)
operation_within (suc (suc (suc (suc (suc (suc (suc (suc (suc (suc zero)))))))))) i v l s h =
    within_more (release_within h i.a) _ (omega arith)
operation_within (suc (suc (suc (suc (suc (suc (suc (suc (suc (suc (suc zero))))))))))) i v l s h = within_more h _ (omega arith)
operation_within (suc (suc (suc (suc (suc (suc (suc (suc (suc (suc (suc (suc o)))))))))))) i v l s h = no_locks_within _

pub perform_within : (i : Instruction) (v : ℕ) (l : Local) (s : Store) → LocksWithin l
    → LocksWithin (perform i v l s).local
unfolding perform
perform_within i v l s h = operation_within i.operation i v l s h
