-- Laws of one instruction: what `perform` is by its operation's number, a difference that wraps, and that no
-- instruction changes how many variables, registers and locks there are.
-- Assumes nothing.
use Rattle.std.specs.Prelude.{ℕ, zero, suc, ◌+◌, ◌%◌, ◌≤◌, ◌<◌, ◌≡◌, refl, length, get_or, set}
use Rattle.std.proofs.Common.{arith, ap, ◌∙◌, length-set}
use Rattle.std.proofs.Math.ListN.{get_or-eq_default}
use Rattle.taskfile.specs.declared.Instruction.{Instruction}
use Rattle.machine.specs.declared.Local.{Local}
use Rattle.machine.specs.Held.{Held}
use Rattle.machine.proofs.Laws.HeldLaws.{none_length, acquire_length, release_length}
use Rattle.machine.specs.Instructions.{Store, Operation, fresh, minus, operation_effects, perform, register}
use Rattle.machine.specs.Instructions.{skipping, with_register, with_held, end_job, load_variable, store, set_number}
use Rattle.machine.specs.Instructions.{add, subtract, skip_less, skip_equal, pick, acquire_lock, release_lock}
use Rattle.machine.specs.Instructions.{assert}

-- the number that y added to wraps back to x is the difference
pub minus_wraps : (r x y : ℕ) → (r + y) % 256 ≡ x → r < 256 → x < 256 → y < 256 → r ≡ minus x y
unfolding minus
minus_wraps r x y e a b d = omega arith

-- ---- `perform` by the operation's number

pub perform_operation : (o : ℕ) (i : Instruction) (v : ℕ) (l : Local) (s : Store) → i.operation ≡ o
    → perform i v l s ≡ get_or operation_effects o end_job i v l s
unfolding perform
perform_operation o i v l s h = rw h

-- o is none of the numbers 1 to n, as a `match` has it
abbrev pub NoneTo : ℕ → ℕ → Type 0
NoneTo zero o = Unit {0}
NoneTo (suc n) o = NoneTo n o × (o ≡ suc n → ⊥)

past : (n o : ℕ) → 1 ≤ o → NoneTo n o → n < o
past zero o some none = some
past (suc n) o some none = omega (arith, past n o some none.0)

-- 0, and every number above 11, is End's
end_else : (o : ℕ) → NoneTo 11 o → get_or operation_effects o end_job ≡ end_job
unfolding operation_effects
end_else zero none = refl
end_else (suc o) none = get_or-eq_default operation_effects end_job (past 11 (suc o) (omega arith) none)

pub performed_end : (i : Instruction) (v : ℕ) (l : Local) (s : Store) → NoneTo 11 i.operation
    → perform i v l s ≡ end_job i v l s
unfolding perform
performed_end i v l s none = ap (λ (o : Operation). o i v l s) (end_else i.operation none)

-- ---- lengths

-- a store of eight variables, and a job's own state with four registers and eight locks
pub record LocalShaped (l : Local) (s : Store) : Type 0 where
  pub store : length s ≡ 8
  pub registers : length l.registers ≡ 4
  pub held : length l.held ≡ 8

pub fresh_shaped : (s : Store) → length s ≡ 8 → LocalShaped fresh s
unfolding fresh
fresh_shaped s h = record { store = h; registers = refl; held = none_length }

-- the next instruction, another register's value, other held locks, another variable's value
next_shaped : (n : ℕ) {l : Local} {s : Store} → LocalShaped l s → LocalShaped (skipping n l) s
unfolding skipping
next_shaped n h = record { store = h.store; registers = h.registers; held = h.held }

register_shaped : (r x : ℕ) {l : Local} {s : Store} → LocalShaped l s → LocalShaped (with_register r x l) s
unfolding with_register
register_shaped r x h = record { store = h.store; registers = simp length-set h.registers; held = h.held }

held_shaped : (held : Held) {l : Local} {s : Store} → length held ≡ 8 → LocalShaped l s
    → LocalShaped (with_held held l) s
unfolding with_held
held_shaped held e h = record { store = h.store; registers = h.registers; held = e }

variable_shaped : (v x : ℕ) {l : Local} {s : Store} → LocalShaped l s → LocalShaped l (set s v x)
variable_shaped v x h = record { store = simp length-set h.store; registers = h.registers; held = h.held }

-- each operation by its number
shaped : (o : ℕ) (i : Instruction) (v : ℕ) (l : Local) (s : Store) → LocalShaped l s
    → LocalShaped (get_or operation_effects o end_job i v l s).local (get_or operation_effects o end_job i v l s).store
unfolding operation_effects end_job load_variable store set_number add subtract skip_less skip_equal pick acquire_lock release_lock assert
shaped zero i v l s h = next_shaped _ (held_shaped _ none_length h)
shaped (suc zero) i v l s h = next_shaped _ (register_shaped _ _ h)
shaped (suc (suc zero)) i v l s h = variable_shaped i.a (register l i.b) (next_shaped _ h)
shaped (suc (suc (suc zero))) i v l s h = next_shaped _ (register_shaped _ _ h)
shaped (suc (suc (suc (suc zero)))) i v l s h = next_shaped _ (register_shaped _ _ h)
shaped (suc (suc (suc (suc (suc zero))))) i v l s h = next_shaped _ (register_shaped _ _ h)
shaped (suc (suc (suc (suc (suc (suc zero)))))) i v l s h = next_shaped _ h
shaped (suc (suc (suc (suc (suc (suc (suc zero))))))) i v l s h = next_shaped _ h
shaped (suc (suc (suc (suc (suc (suc (suc (suc zero)))))))) i v l s h = next_shaped _ (register_shaped _ _ h)
shaped (suc (suc (suc (suc (suc (suc (suc (suc (suc zero))))))))) i v l s h = next_shaped _ (held_shaped _ (acquire_length l.held i.a ∙ h.held) h)
shaped (suc (suc (suc (suc (suc (suc (suc (suc (suc (suc zero)))))))))) i v l s h = next_shaped _ (held_shaped _ (release_length l.held i.a ∙ h.held) h)
shaped (suc (suc (suc (suc (suc (suc (suc (suc (suc (suc (suc zero))))))))))) i v l s h = next_shaped _ h
shaped (suc (suc (suc (suc (suc (suc (suc (suc (suc (suc (suc (suc o)))))))))))) i v l s h = next_shaped _ (held_shaped _ none_length h)

pub perform_shaped : (i : Instruction) (v : ℕ) (l : Local) (s : Store) → LocalShaped l s
    → LocalShaped (perform i v l s).local (perform i v l s).store
unfolding perform
perform_shaped i v l s h = shaped i.operation i v l s h

-- each operation by its number leaves as many variables as it found
stored_length : (o : ℕ) (i : Instruction) (v : ℕ) (l : Local) (s : Store)
    → length (get_or operation_effects o end_job i v l s).store ≡ length s
unfolding operation_effects end_job load_variable store set_number add subtract skip_less skip_equal pick acquire_lock release_lock assert
stored_length zero i v l s = refl
stored_length (suc zero) i v l s = refl
stored_length (suc (suc zero)) i v l s = length-set s i.a (register l i.b)
stored_length (suc (suc (suc zero))) i v l s = refl
stored_length (suc (suc (suc (suc zero)))) i v l s = refl
stored_length (suc (suc (suc (suc (suc zero))))) i v l s = refl
stored_length (suc (suc (suc (suc (suc (suc zero)))))) i v l s = refl
stored_length (suc (suc (suc (suc (suc (suc (suc zero))))))) i v l s = refl
stored_length (suc (suc (suc (suc (suc (suc (suc (suc zero)))))))) i v l s = refl
stored_length (suc (suc (suc (suc (suc (suc (suc (suc (suc zero))))))))) i v l s = refl
stored_length (suc (suc (suc (suc (suc (suc (suc (suc (suc (suc zero)))))))))) i v l s = refl
stored_length (suc (suc (suc (suc (suc (suc (suc (suc (suc (suc (suc zero))))))))))) i v l s = refl
stored_length (suc (suc (suc (suc (suc (suc (suc (suc (suc (suc (suc (suc o)))))))))))) i v l s = refl

pub perform_length : (i : Instruction) (v : ℕ) (l : Local) (s : Store) → length (perform i v l s).store ≡ length s
unfolding perform
perform_length i v l s = stored_length i.operation i v l s
